-- Rings whose vertices are on one line, and the test of it.
use Rattle.std.proofs.Common.{◌≡◌, ◌≢◌, ◌<◌, ◌≤◌, ◌-◌, ℕ, suc, true, false, List, [], ◌∷◌, ◌⊎◌, inl, inr, length, get_or, take, drop, All, refl, sym, ◌∙◌, ap, ap₂, subst, arith}
use Rattle.std.proofs.lemmas.List.{take_all}
use Rattle.std.specs.Prelude.{Bool, ℤ, pos, neg_ℤ, ◌*ℤ◌, ◌+ℤ◌, ◌-ℤ◌, ◌&&◌, not, ◌↔◌, IsSome, IfSome, IfNone, Option, Some, None}
use Rattle.std.specs.List.{list_all}
use Rattle.std.specs.Ordering.{int_eq}
use Rattle.std.proofs.lemmas.Int.{ints}
use Rattle.std.proofs.lemmas.List.Elements.{All-cons, All-nil}
use Rattle.plane_core.specs.declared.vertex.Vertex.{Vertex}
use Rattle.plane_core.specs.declared.edge.Edge.{Edge}
use Rattle.plane_core.specs.Points.{at, run, rise, side}
use Rattle.plane_core.specs.Figures.{Figure, edges, HasLength, IsPath, IsRing, IsGeometry}
use Rattle.plane_core.specs.Figures.Figure.{Areas}
use Rattle.plane_core.proofs.Ring.{monomials}
use Rattle.plane_core.proofs.StoredLemmas.{cuts_for}
use Rattle.plane_core.proofs.FormLemmas.{Form, IsLine, Steep, Level, line_not_zero, by_zero}
use Rattle.number_core.proofs.NumberLemmas.{by_bool}
use Rattle.plane_core.specs.declared.rings.Rings.{Rings}
use Rattle.plane_core.specs.declared.rings.Rings.TheVariants.{Proper, EvenOdd}
use Rattle.wkt_any_core.specs.Drawing.{IsFlat, AreAllowed}
use Rattle.plane_core.specs.declared.outline.Kind.{Kind}
use Rattle.plane_core.specs.declared.outline.Kind.TheVariants.{Points as Dots, Lines as Polylines, Areas as RingKind}
use Rattle.plane_core.specs.Stored.{paths_of, stored_figure, AreCuts, IsStored}
use Rattle.wkt_any_core.specs.Widths.{is_level, is_wide, are_allowed}

level_fact : (m n : ℤ) → int_eq m n ≡ true → m ≡ n
level_fact m n h = grind (arith, ints)

level_test : (m n : ℤ) → m ≡ n → int_eq m n ≡ true
level_test m n h = grind (arith, ints)

clash : {P : Type 0} {b : Bool} → b ≡ true → b ≡ false → P
clash t f = absurd cc

and_both : (a b : Bool) → a ≡ true → b ≡ true → (a && b) ≡ true
and_both a b h k = rw (h, k) refl

and_first : (a b : Bool) → (a && b) ≡ true → a ≡ true
and_first true b h = refl
and_first false b h = cc

and_second : (a b : Bool) → (a && b) ≡ true → b ≡ true
and_second true b h = h
and_second false b h = cc

all_first : {X : Type 0} (P : X → Type 0) (x : X) (xs : List X) → All P (x ∷ xs) → P x
all_first P x xs h = h 0 x (omega arith)

all_rest : {X : Type 0} (P : X → Type 0) (x : X) (xs : List X) → All P (x ∷ xs) → All P xs
all_rest P x xs h = λ k d lt. h (suc k) d (omega (arith, lt))

-- ---- one ring

-- the line through both ends of an edge
on_line : (e : Edge) (v : Vertex) → side e (at v) ≡ pos 0
    → neg_ℤ (rise e) *ℤ v.x +ℤ run e *ℤ v.y +ℤ (rise e *ℤ e.a.x -ℤ run e *ℤ e.a.y) ≡ pos 0
on_line e v h = plain (run e) (rise e) e.a.x e.a.y v.x v.y h
  where
    plain : (r d a b x y : ℤ) → r *ℤ (y -ℤ pos 1 *ℤ b) -ℤ d *ℤ (x -ℤ pos 1 *ℤ a) ≡ pos 0 → neg_ℤ d *ℤ x +ℤ r *ℤ y +ℤ (d *ℤ a -ℤ r *ℤ b) ≡ pos 0
    plain r d a b x y h = same d r a b x y ∙ h
      where
        same : (d r a b x y : ℤ) → neg_ℤ d *ℤ x +ℤ r *ℤ y +ℤ (d *ℤ a -ℤ r *ℤ b) ≡ r *ℤ (y -ℤ pos 1 *ℤ b) -ℤ d *ℤ (x -ℤ pos 1 *ℤ a)
        same d r a b x y = simp monomials (omega (arith, ints))

at_start : (e : Edge) → side e (at e.a) ≡ pos 0
at_start e = plain (run e) (rise e) e.a.x e.a.y
  where
    plain : (r d a b : ℤ) → r *ℤ (b -ℤ pos 1 *ℤ b) -ℤ d *ℤ (a -ℤ pos 1 *ℤ a) ≡ pos 0
    plain r d a b = simp monomials (omega (arith, ints))

at_end : (e : Edge) → side e (at e.b) ≡ pos 0
at_end e = plain e.a.x e.a.y e.b.x e.b.y
  where
    plain : (a b c d : ℤ) → (c -ℤ a) *ℤ (d -ℤ pos 1 *ℤ b) -ℤ (d -ℤ b) *ℤ (c -ℤ pos 1 *ℤ a) ≡ pos 0
    plain a b c d = simp monomials (omega (arith, ints))

has_slope : (e : Edge) → HasLength e → (neg_ℤ (rise e) ≢ pos 0) ⊎ (run e ≢ pos 0)
has_slope e long = by_zero (run e) (λ apart. inr apart)
    (λ level. by_zero (rise e) (λ apart. inl (λ z. apart (turned (rise e) z)))
    (λ flat. absurd (long (same e.a.x e.b.x level, same e.a.y e.b.y flat))))
  where
    turned : (v : ℤ) → neg_ℤ v ≡ pos 0 → v ≡ pos 0
    turned v h = omega (arith, ints)

    same : (a b : ℤ) → b -ℤ a ≡ pos 0 → a ≡ b
    same a b h = omega (arith, ints)

levels_on : (e : Edge) (vs : List Vertex) → list_all (is_level e) vs ≡ true
    → All (λ v. neg_ℤ (rise e) *ℤ v.x +ℤ run e *ℤ v.y +ℤ (rise e *ℤ e.a.x -ℤ run e *ℤ e.a.y) ≡ pos 0) vs
levels_on e [] h = All-nil _
levels_on e (v ∷ vs) h = All-cons (λ u. neg_ℤ (rise e) *ℤ u.x +ℤ run e *ℤ u.y +ℤ (rise e *ℤ e.a.x -ℤ run e *ℤ e.a.y) ≡ pos 0) v vs (on_line e v (level_fact (side e (at v)) (pos 0) (and_first _ _ h))) (levels_on e vs (and_second (is_level e v) _ h))

flat_path : (ring : List Vertex) → IsPath ring → is_wide ring ≡ false → IsFlat ring
flat_path [] path h = absurd (none path.long)
  where
    none : 0 < 0 → ⊥
    none h = omega arith
flat_path (a ∷ []) path h = absurd (none path.long)
  where
    none : 0 < 0 → ⊥
    none h = omega arith
flat_path (a ∷ b ∷ rest) path h =
    let e : Edge = record { a = a; b = b } in
    record {
      a = neg_ℤ (rise e);
      b = run e;
      c = rise e *ℤ a.x -ℤ run e *ℤ a.y;
      line = has_slope e (all_first HasLength e (edges (b ∷ rest)) path.steps);
      on =
          let On = λ (u : Vertex). neg_ℤ (rise e) *ℤ u.x +ℤ run e *ℤ u.y +ℤ (rise e *ℤ e.a.x -ℤ run e *ℤ e.a.y) ≡ pos 0 in
          All-cons On a (b ∷ rest) (on_line e a (at_start e)) (All-cons On b rest (on_line e b (at_end e)) (levels_on e rest (turned _ h)));
    }
  where
    turned : (t : Bool) → not t ≡ false → t ≡ true
    turned true h = refl
    turned false h = cc

-- three vertices on one line
side_zero : (l : Form) (a b v : Vertex) → IsLine l → l.a *ℤ a.x +ℤ l.b *ℤ a.y +ℤ l.c ≡ pos 0 → l.a *ℤ b.x +ℤ l.b *ℤ b.y +ℤ l.c ≡ pos 0
    → l.a *ℤ v.x +ℤ l.b *ℤ v.y +ℤ l.c ≡ pos 0 → side (record { a = a; b = b }) (at v) ≡ pos 0
side_zero l a b v line ha hb hv = by_zero (side (record { a = a; b = b }) (at v))
    (λ apart. absurd (line_not_zero l (at a) (at b) (at v) line (λ z. apart (sym (same a.x a.y b.x b.y v.x v.y) ∙ z)) (valued a ha) (valued b hb) (valued v hv)))
    (λ level. level)
  where
    same : (a b c d x y : ℤ) → a *ℤ (d *ℤ pos 1 -ℤ pos 1 *ℤ y) -ℤ b *ℤ (c *ℤ pos 1 -ℤ pos 1 *ℤ x) +ℤ pos 1 *ℤ (c *ℤ y -ℤ d *ℤ x)
        ≡ (c -ℤ a) *ℤ (y -ℤ pos 1 *ℤ b) -ℤ (d -ℤ b) *ℤ (x -ℤ pos 1 *ℤ a)
    same a b c d x y = simp monomials (omega (arith, ints))

    valued : (u : Vertex) → l.a *ℤ u.x +ℤ l.b *ℤ u.y +ℤ l.c ≡ pos 0 → l.a *ℤ u.x +ℤ l.b *ℤ u.y +ℤ l.c *ℤ pos 1 ≡ pos 0
    valued u h = one (l.a *ℤ u.x +ℤ l.b *ℤ u.y) l.c h
      where
        one : (m c : ℤ) → m +ℤ c ≡ pos 0 → m +ℤ c *ℤ pos 1 ≡ pos 0
        one m c h = let e : c *ℤ pos 1 ≡ c = simp monomials in omega (arith, ints)

levels : (l : Form) (a b : Vertex) (vs : List Vertex) → IsLine l → l.a *ℤ a.x +ℤ l.b *ℤ a.y +ℤ l.c ≡ pos 0 → l.a *ℤ b.x +ℤ l.b *ℤ b.y +ℤ l.c ≡ pos 0
    → All (λ v. l.a *ℤ v.x +ℤ l.b *ℤ v.y +ℤ l.c ≡ pos 0) vs → list_all (is_level (record { a = a; b = b })) vs ≡ true
levels l a b [] line ha hb h = refl
levels l a b (v ∷ vs) line ha hb h =
    let P = λ (u : Vertex). l.a *ℤ u.x +ℤ l.b *ℤ u.y +ℤ l.c ≡ pos 0 in
    and_both _ _ (level_test _ _ (side_zero l a b v line ha hb (all_first P v vs h))) (levels l a b vs line ha hb (all_rest P v vs h))

line_of : (l : Form) → (l.a ≢ pos 0) ⊎ (l.b ≢ pos 0) → IsLine l
line_of l (inl h) = Steep h
line_of l (inr h) = Level h

wide_ring : (ring : List Vertex) → is_wide ring ≡ true → ¬ (IsFlat ring)
wide_ring [] t flat = cc
wide_ring (a ∷ []) t flat = cc
wide_ring (a ∷ b ∷ rest) t flat =
    let l : Form = record { a = flat.a; b = flat.b; c = flat.c } in
    let P = λ (u : Vertex). l.a *ℤ u.x +ℤ l.b *ℤ u.y +ℤ l.c ≡ pos 0 in
    let all = levels l a b rest (line_of l flat.line) (all_first P a (b ∷ rest) flat.on) (all_first P b rest (all_rest P a (b ∷ rest) flat.on))
    (all_rest P b rest (all_rest P a (b ∷ rest) flat.on)) in
    clash t (ap not all)

-- the test by the first two vertices and the rest
pub wide_by : (ring : List Vertex) (a b : Vertex) → 2 ≤ length ring → a ≡ get_or ring 0 a → b ≡ get_or ring 1 b
    → is_wide ring ≡ not (list_all (is_level (record { a = a; b = b })) (take (length ring - 2) (drop 2 ring)))
wide_by [] a b long first second = absurd (none long)
  where
    none : 2 ≤ 0 → ⊥
    none h = omega arith
wide_by (x ∷ []) a b long first second = absurd (none long)
  where
    none : 2 ≤ 1 → ⊥
    none h = omega arith
wide_by (x ∷ y ∷ rest) a b long first second =
    let all : take (length (x ∷ y ∷ rest) - 2) rest ≡ rest = take_all (length (x ∷ y ∷ rest) - 2) rest (omega arith) in
    ap (λ vs. not (list_all (is_level (record { a = x; b = y })) vs)) (sym all)
    ∙ ap₂ (λ v w. not (list_all (is_level (record { a = v; b = w })) (take (length (x ∷ y ∷ rest) - 2) rest))) (sym first) (sym second)

-- ---- all rings

all_wide : (rings : List (List Vertex)) → list_all is_wide rings ≡ true → All (λ ring. ¬ (IsFlat ring)) rings
all_wide [] t = All-nil _
all_wide (ring ∷ rings) t = All-cons (λ r. ¬ (IsFlat r)) ring rings (wide_ring ring (and_first _ _ t)) (all_wide rings (and_second (is_wide ring) _ t))

wide_all : (rings : List (List Vertex)) → All IsRing rings → All (λ ring. ¬ (IsFlat ring)) rings → list_all is_wide rings ≡ true
wide_all [] h k = refl
wide_all (ring ∷ rings) h k =
    let one : is_wide ring ≡ true = by_bool (is_wide ring) (λ t. t)
    (λ f. absurd (all_first (λ r. ¬ (IsFlat r)) ring rings k (flat_path ring (all_first IsRing ring rings h).path f))) in
    and_both _ _ one (wide_all rings (all_rest IsRing ring rings h) (all_rest (λ r. ¬ (IsFlat r)) ring rings k))

some_flat : (rings : List (List Vertex)) → list_all is_wide rings ≡ false → IsGeometry (Areas rings) → AreAllowed Proper (Areas rings) → ⊥
some_flat rings f g allowed = clash (wide_all rings g.1 allowed) f

-- ---- the rule

pub allowed_fact : (kind : Kind) (rule : Rings) (ends : List ℕ) (vs : List Vertex) → are_allowed kind rule (paths_of 0 ends vs) ≡ true
    → AreAllowed rule (stored_figure kind ends vs)
allowed_fact Dots Proper ends vs t = tt
allowed_fact Dots EvenOdd ends vs t = tt
allowed_fact Polylines Proper ends vs t = tt
allowed_fact Polylines EvenOdd ends vs t = tt
allowed_fact RingKind Proper ends vs t = all_wide (paths_of 0 ends vs) t
allowed_fact RingKind EvenOdd ends vs t = tt

pub refused_fact : (kind : Kind) (rule : Rings) (ends : List ℕ) (vs : List Vertex) → are_allowed kind rule (paths_of 0 ends vs) ≡ false
    → IsGeometry (stored_figure kind ends vs) → AreAllowed rule (stored_figure kind ends vs) → ⊥
refused_fact Dots Proper ends vs f g = cc
refused_fact Dots EvenOdd ends vs f g = cc
refused_fact Polylines Proper ends vs f g = cc
refused_fact Polylines EvenOdd ends vs f g = cc
refused_fact RingKind Proper ends vs f g = some_flat (paths_of 0 ends vs) f g
refused_fact RingKind EvenOdd ends vs f g = cc

-- the geometry made of vertices that are allowed
module _ (kind : Kind) (rule : Rings) (ends : List ℕ) (vs : List Vertex) (cuts : AreCuts 0 ends (length vs)) (made : Option Figure)
    (stored : IsSome made ↔ IsStored kind ends vs) where
  pub made_some : IfSome made (λ g. g ≡ stored_figure kind ends vs) → AreAllowed rule (stored_figure kind ends vs)
      → IfSome made (λ g. (g ≡ stored_figure kind ends vs) × IsGeometry g × AreAllowed rule g)
  made_some same allowed = by_made made stored same
    where
      by_made : (made : Option Figure) → (IsSome made ↔ IsStored kind ends vs) → IfSome made (λ g. g ≡ stored_figure kind ends vs)
          → IfSome made (λ g. (g ≡ stored_figure kind ends vs) × IsGeometry g × AreAllowed rule g)
      by_made None stored same = tt
      by_made (Some g) stored same = (same, subst IsGeometry (sym same) (stored.0 refl).geometry, subst (AreAllowed rule) (sym same) allowed)

  pub made_none : IfNone made (IsGeometry (stored_figure kind ends vs) → AreAllowed rule (stored_figure kind ends vs) → ⊥)
  made_none = by_made made stored
    where
      by_made : (made : Option Figure) → (IsSome made ↔ IsStored kind ends vs)
          → IfNone made (IsGeometry (stored_figure kind ends vs) → AreAllowed rule (stored_figure kind ends vs) → ⊥)
      by_made None stored = λ geometry allowed. absurd (no_none (stored.1 (record { cuts = cuts_for kind ends (length vs) cuts; geometry = geometry })))
        where
          no_none : false ≡ true → ⊥
          no_none e = cc
      by_made (Some g) stored = tt
