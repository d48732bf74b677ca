-- Areas whose rings are proper have an interior: on one side of an edge that isn't vertical.
use Rattle.std.proofs.Common.{◌≡◌, ◌<◌, ◌+◌, ◌*◌, ◌⊎◌, inl, inr, arith, refl, sym, subst, ap, ◌∙◌, suc, true, false, cond, List, [], ◌∷◌, ◌++◌}
use Rattle.std.specs.Prelude.{ℤ, ℕ, pos, neg_ℤ, ◌*ℤ◌, ◌-ℤ◌, ◌+ℤ◌, ◌≤ℤ◌, ◌<ℤ◌, int_lt, int_le, Bool, ◌&&◌, ◌||◌, AllPairs, count_by, if◌then◌else◌}
use Rattle.std.specs.Ordering.{int_eq}
use Rattle.std.specs.List.{flat_map}
use Rattle.std.proofs.lemmas.Int.{ints, by_lt_z}
use Rattle.std.proofs.lemmas.Bool.Decides.{nat_tests}
use Rattle.std.proofs.lemmas.List.Sums.{sum_by-cons, sum_by-append}
use Rattle.plane_core.specs.declared.vertex.Vertex.{Vertex}
use Rattle.plane_core.specs.declared.edge.Edge.{Edge}
use Rattle.plane_core.specs.declared.part.Part.TheVariants.{Interior, Exterior}
use Rattle.plane_core.specs.Points.{Point, at, run, side, is_on, is_below, is_at_or_below, IsSamePlace}
use Rattle.plane_core.specs.Figures.{Figure, IsGeometry, edges, is_odd, part_above}
use Rattle.plane_core.specs.Figures.Figure.{Areas as Regions}
use Rattle.plane_core.specs.PlaneMatrices.{IsInBoth}
use Rattle.plane_core.specs.ProperRings.{MeetProperly, AreProper}
use Rattle.plane_core.proofs.Ring.{monomials}
use Rattle.plane_core.proofs.Signs.{weak}
use Rattle.plane_core.proofs.FootLemmas.{by_below, by_at_or_below}
use Rattle.plane_core.proofs.FormLemmas.{by_zero, by_sign, no_zero_divisor}
use Rattle.plane_core.proofs.LargeLemmas.{Large, large_weaker, large_both, line_large}
use Rattle.plane_core.proofs.AvoidLemmas.{between}
use Rattle.plane_core.proofs.OnePlaneMatrix.{triangle_point}
use Rattle.noding_core.specs.Nodes.{IsAmong}
use Rattle.noding_core.proofs.NodeLemmas.{all_among}
use Rattle.noding_core.proofs.AmongLemmas.{among_left, among_right, among_either, large_all, count_same, count_none}
use Rattle.noding_core.proofs.TestLemmas.{by_test, clash, le_true, le_false, lt_true, lt_false}
use Rattle.noding_core.proofs.FlipLemmas.{flip, is_on-flip, side-flip}
use Rattle.noding_core.proofs.LineLemmas.{on_from_columns}
use Rattle.noding_core.proofs.OpenLemmas.{face_triangle}
use Rattle.noding_core.proofs.TopmostLemmas.{IsTop, topmost, below_agrees}
use Rattle.any_relation_core.proofs.PartLemmas.{IsInPart, HasInterior}
use Rattle.any_relation_core.proofs.ShareLemmas.{share_point}
use Rattle.any_relation_core.proofs.SpanLemmas.{on_mix}

-- ---- each two of a list

pub pairs_tail : {A : Type 0} (R : A → A → Type 0) (x : A) (xs : List A) → AllPairs R (x ∷ xs) → AllPairs R xs
pairs_tail R x xs h = λ i j d less within. h (suc i) (suc j) d (omega arith) (omega arith)

pub pairs_head : {A : Type 0} (R : A → A → Type 0) (x y : A) (xs : List A) → AllPairs R (x ∷ xs) → IsAmong y xs → R x y
pairs_head R x y xs h k = all_among (R x) y xs (λ j d within. h 0 (suc j) d (omega arith) (omega arith)) k

-- an edge, and those beside it in the list, which share one place with it at most
abbrev OnePlace : Edge → Edge → Type 0
OnePlace e f = (p q : Point) → 0 < p.w → 0 < q.w → is_on e p ≡ true → is_on f p ≡ true → is_on e q ≡ true → is_on f q ≡ true → IsSamePlace p q

record Beside (es : List Edge) (e : Edge) : Type 0 where
  before : List Edge
  after : List Edge
  split : es ≡ before ++ (e ∷ after)
  meet : (f : Edge) → IsAmong f (before ++ after) → OnePlace e f

one_first : (e f : Edge) → MeetProperly e f → OnePlace e f
one_first e f h p q wp wq ep fp eq fq = h.one_place p q (record { wide = wp; first = ep; second = fp }) (record { wide = wq; first = eq; second = fq })

one_second : (e f : Edge) → MeetProperly f e → OnePlace e f
one_second e f h p q wp wq ep fp eq fq = h.one_place p q (record { wide = wp; first = fp; second = ep }) (record { wide = wq; first = fq; second = eq })

beside : (es : List Edge) (e : Edge) → IsAmong e es → AreProper es → Beside es e
beside [] e k h = absurd k
beside (x ∷ xs) e (inl same) h = record {
  before = [];
  after = xs;
  split = ap (λ (z : Edge). z ∷ xs) (sym same);
  meet = λ f k. one_first e f (subst (λ (z : Edge). MeetProperly z f) (sym same) (pairs_head MeetProperly x f xs h k));
}
beside (x ∷ xs) e (inr k) h =
    let rest = beside xs e k (pairs_tail MeetProperly x xs h) in record {
      before = x ∷ rest.before;
      after = rest.after;
      split = ap (λ (zs : List Edge). x ∷ zs) rest.split;
      meet = λ f m. elim m [ inl same ↦ one_second e f (subst (λ (z : Edge). MeetProperly z e) (sym same) (pairs_head MeetProperly x e xs h k)) | inr l ↦ rest.meet f l ];
    }

-- ---- points of an edge, each at another place

difference_none : (m n : ℤ) → m -ℤ n ≡ pos 0 → m ≡ n
difference_none m n h = omega (arith, ints)

no_difference : (m n : ℤ) → m ≡ n → m -ℤ n ≡ pos 0
no_difference m n h = omega (arith, ints)

places_apart : (p q : Point) (k d : ℕ) → 0 < d → ¬ (IsSamePlace p q) → ¬ (IsSamePlace (between p q k) (between p q (k + d)))
places_apart p q k d some apart same = apart (step p.x q.x p.w q.w same.0, step p.y q.y p.w q.w same.1)
  where
    whole : ¬ (pos d ≡ pos 0)
    whole e = omega (arith, ints)

    plain : (k l m n a b w v c : ℤ) → ¬ (c ≡ pos 0) → l ≡ k +ℤ c → m ≡ w +ℤ k *ℤ v → n ≡ w +ℤ l *ℤ v → (pos 1 *ℤ a +ℤ k *ℤ b) *ℤ n ≡ (pos 1 *ℤ a +ℤ l *ℤ b) *ℤ m → a *ℤ v ≡ b *ℤ w
    plain k l m n a b w v c off e f g same =
        let h : (pos 1 *ℤ a +ℤ k *ℤ b) *ℤ (w +ℤ (k +ℤ c) *ℤ v) ≡ (pos 1 *ℤ a +ℤ (k +ℤ c) *ℤ b) *ℤ (w +ℤ k *ℤ v) = rw (f, g, e) at same in
        let i : (pos 1 *ℤ a +ℤ k *ℤ b) *ℤ (w +ℤ (k +ℤ c) *ℤ v) -ℤ (pos 1 *ℤ a +ℤ (k +ℤ c) *ℤ b) *ℤ (w +ℤ k *ℤ v) ≡ c *ℤ (a *ℤ v -ℤ b *ℤ w) = simp monomials (omega (arith, ints)) in
        by_zero (a *ℤ v -ℤ b *ℤ w) (λ away. absurd (no_zero_divisor c (a *ℤ v -ℤ b *ℤ w) off away (sym i ∙ no_difference _ _ h))) (difference_none (a *ℤ v) (b *ℤ w))

    step : (a b : ℤ) (m n : ℕ) → (pos 1 *ℤ a +ℤ pos k *ℤ b) *ℤ pos (1 * m + (k + d) * n) ≡ (pos 1 *ℤ a +ℤ pos (k + d) *ℤ b) *ℤ pos (1 * m + k * n) → a *ℤ pos n ≡ b *ℤ pos m
    step a b m n same = plain (pos k) (pos (k + d)) _ _ a b (pos m) (pos n) (pos d) whole (omega (arith, ints)) (omega (arith, ints)) (omega (arith, ints)) same

-- beyond each place there is a point of an edge that is on none of the edges beside it
abbrev Away : Edge → List Edge → ℕ → Type 0
Away e fs k = (d : ℕ) × ((f : Edge) → IsAmong f fs → is_on f (between (at e.a) (at e.b) (k + d)) ≡ false)

away_from : (e : Edge) (fs : List Edge) → ¬ (IsSamePlace (at e.a) (at e.b)) → ((f : Edge) → IsAmong f fs → OnePlace e f) → (k : ℕ) → Away e fs k
away_from e [] apart one k = (0, λ f l. absurd l)
away_from e (f ∷ fs) apart one k = first (λ m. away_from e fs apart (λ g l. one g (inr l)) m) (away_from e fs apart (λ g l. one g (inr l)) k)
  where
    z : ℕ → Point
    z n = between (at e.a) (at e.b) n

    wide : (n : ℕ) → 0 < (z n).w
    wide n = omega arith

    clear : (n : ℕ) → is_on f (z n) ≡ false → ((g : Edge) → IsAmong g fs → is_on g (z n) ≡ false) → (g : Edge) → IsAmong g (f ∷ fs) → is_on g (z n) ≡ false
    clear n off rest g (inl same) = subst (λ (x : Edge). is_on x (z n) ≡ false) (sym same) off
    clear n off rest g (inr l) = rest g l

    second : (n : ℕ) (d : ℕ) → n ≡ k + d → is_on f (z n) ≡ true → Away e fs (n + 1) → Away e (f ∷ fs) k
    second n d at_n on (c, rest) = by_test (is_on f (z (n + 1 + c)))
        (λ again. absurd (places_apart (at e.a) (at e.b) n (1 + c) (omega arith) apart
        (subst (λ (m : ℕ). IsSamePlace (z n) (z m)) (plain n c) (one f (inl refl) (z n) (z (n + 1 + c)) (wide n) (wide (n + 1 + c)) (on_mix e 1 n) on (on_mix e 1 (n + 1 + c)) again))))
        (λ off. (d + 1 + c, subst (λ (m : ℕ). (g : Edge) → IsAmong g (f ∷ fs) → is_on g (z m) ≡ false) (total n d c at_n) (clear (n + 1 + c) off rest)))
      where
        plain : (n c : ℕ) → n + 1 + c ≡ n + (1 + c)
        plain n c = omega arith

        total : (n d c : ℕ) → n ≡ k + d → n + 1 + c ≡ k + (d + 1 + c)
        total n d c h = omega arith

    first : ((m : ℕ) → Away e fs m) → Away e fs k → Away e (f ∷ fs) k
    first again (d, rest) = by_test (is_on f (z (k + d)))
        (λ on. second (k + d) d refl on (again (k + d + 1)))
        (λ off. (d, clear (k + d) off rest))

-- ---- a point whose column has no vertex

abbrev OffColumns : List Edge → Point → Type 0
OffColumns es p = (f : Edge) → IsAmong f es → ¬ (p.x ≡ pos p.w *ℤ f.a.x) × ¬ (p.x ≡ pos p.w *ℤ f.b.x)

column_large : (a b v : ℤ) → ¬ (a ≡ b) → Large (λ n. ¬ (pos 1 *ℤ a +ℤ pos n *ℤ b ≡ pos (1 * 1 + n * 1) *ℤ v))
column_large a b v apart =
    large_weaker (λ n. ¬ ((a -ℤ v) +ℤ pos n *ℤ (b -ℤ v) ≡ pos 0)) (λ n. ¬ (pos 1 *ℤ a +ℤ pos n *ℤ b ≡ pos (1 * 1 + n * 1) *ℤ v))
    (λ n off e. off (plain (pos n) (pos (1 * 1 + n * 1)) (omega (arith, ints)) e))
    (line_large (a -ℤ v) (b -ℤ v) (λ h k. apart (same a b v h k)))
  where
    same : (a b v : ℤ) → b -ℤ v ≡ pos 0 → a -ℤ v ≡ pos 0 → a ≡ b
    same a b v h k = omega (arith, ints)

    plain : (n m : ℤ) → m ≡ pos 1 +ℤ n → pos 1 *ℤ a +ℤ n *ℤ b ≡ m *ℤ v → (a -ℤ v) +ℤ n *ℤ (b -ℤ v) ≡ pos 0
    plain n m h e =
        let f : pos 1 *ℤ a +ℤ n *ℤ b ≡ (pos 1 +ℤ n) *ℤ v = rw h at e in
        let g : (a -ℤ v) +ℤ n *ℤ (b -ℤ v) ≡ (pos 1 *ℤ a +ℤ n *ℤ b) -ℤ (pos 1 +ℤ n) *ℤ v = simp monomials (omega (arith, ints)) in
        g ∙ no_difference _ _ f

columns_large : (es : List Edge) (e : Edge) → ¬ (e.a.x ≡ e.b.x) → Large (λ n. OffColumns es (between (at e.a) (at e.b) n))
columns_large es e apart =
    large_all (λ f n. ¬ (pos 1 *ℤ e.a.x +ℤ pos n *ℤ e.b.x ≡ pos (1 * 1 + n * 1) *ℤ f.a.x) × ¬ (pos 1 *ℤ e.a.x +ℤ pos n *ℤ e.b.x ≡ pos (1 * 1 + n * 1) *ℤ f.b.x)) es
    (λ f k. large_both (λ n. ¬ (pos 1 *ℤ e.a.x +ℤ pos n *ℤ e.b.x ≡ pos (1 * 1 + n * 1) *ℤ f.a.x)) (λ n. ¬ (pos 1 *ℤ e.a.x +ℤ pos n *ℤ e.b.x ≡ pos (1 * 1 + n * 1) *ℤ f.b.x))
    (column_large e.a.x e.b.x f.a.x apart) (column_large e.a.x e.b.x f.b.x apart))

-- no vertical edge goes through it, nor through a point straight above or below
upright_there : (es : List Edge) (p z : Point) → 0 < p.w → 0 < z.w → OffColumns es p → z.x *ℤ pos p.w ≡ p.x *ℤ pos z.w → (f : Edge) → IsAmong f es → is_on f z ≡ true → ¬ (run f ≡ pos 0)
upright_there es p z wp wz off straight f k on vertical =
    (off f k).0 (cancel p.x (pos p.w) z.x (pos z.w) f.a.x (whole z.w wz) straight (column (side f z) (pos z.w *ℤ f.a.x) (pos z.w *ℤ f.b.x) z.x _ (ap (λ (m : ℤ). pos z.w *ℤ m) (level f.a.x f.b.x vertical)) on))
  where
    whole : (n : ℕ) → 0 < n → ¬ (pos n ≡ pos 0)
    whole n h e = omega (arith, ints)

    level : (a b : ℤ) → b -ℤ a ≡ pos 0 → a ≡ b
    level a b h = omega (arith, ints)

    column : (s m n x : ℤ) (t : Bool) → m ≡ n → (int_eq s (pos 0) && (int_le m x && int_le x n || int_le n x && int_le x m) && t) ≡ true → x ≡ m
    column s m n x t e h = grind (arith, ints)

    cancel : (x w y v a : ℤ) → ¬ (v ≡ pos 0) → y *ℤ w ≡ x *ℤ v → y ≡ v *ℤ a → x ≡ w *ℤ a
    cancel x w y v a off e h =
        let f : (v *ℤ a) *ℤ w ≡ x *ℤ v = rw h at e in
        let g : v *ℤ (x -ℤ w *ℤ a) ≡ x *ℤ v -ℤ (v *ℤ a) *ℤ w = simp monomials (omega (arith, ints)) in
        by_zero (x -ℤ w *ℤ a) (λ away. absurd (no_zero_divisor v (x -ℤ w *ℤ a) off away (g ∙ no_difference _ _ (sym f)))) (difference_none x (w *ℤ a))

-- ---- just the edges through a point are at it and not below it

on_level : (f : Edge) (q : Point) → 0 < q.w → side f q ≡ pos 0 → is_at_or_below f q ≡ true → is_on f q ≡ true
on_level f q wide level test =
    by_at_or_below f q wide test
    (λ range right s. let r = bounds _ _ _ range in on_from_columns f q right level r.0 r.1)
    (λ range left s. let r = bounds _ _ _ range in sym (is_on-flip f q) ∙ on_from_columns (flip f) q left (side-flip f q ∙ none _ level) r.0 r.1)
  where
    bounds : (m n x : ℤ) → (int_le m x && int_lt x n) ≡ true → (m ≤ℤ x) × (x ≤ℤ n)
    bounds m n x h = (grind (arith, ints), grind (arith, ints))

    none : (s : ℤ) → s ≡ pos 0 → neg_ℤ s ≡ pos 0
    none s h = omega (arith, ints)

level_not_below : (f : Edge) (q : Point) → 0 < q.w → side f q ≡ pos 0 → is_below f q ≡ false
level_not_below f q wide level = by_test (is_below f q)
    (λ below. by_below f q wide below (λ range right s. absurd (up _ level s)) (λ range left s. absurd (down _ level s)))
    (λ no. no)
  where
    up : (s : ℤ) → s ≡ pos 0 → pos 0 <ℤ s → ⊥
    up s h k = omega (arith, ints)

    down : (s : ℤ) → s ≡ pos 0 → s <ℤ pos 0 → ⊥
    down s h k = omega (arith, ints)

off_agrees : (f : Edge) (q : Point) → 0 < q.w → is_on f q ≡ false → is_at_or_below f q ≡ is_below f q
off_agrees f q wide off = by_sign (side f q)
    (λ up. above _ _ (side f q) up)
    (λ down. under _ _ (side f q) down)
    (λ level. by_test (is_at_or_below f q) (λ test. clash (is_on f q) (on_level f q wide level test) off) (λ no. no ∙ sym (level_not_below f q wide level)))
  where
    above : (r t : Bool) (s : ℤ) → pos 0 <ℤ s → (r && int_le (pos 0) s || t && int_le s (pos 0)) ≡ (r && int_lt (pos 0) s || t && int_lt s (pos 0))
    above r t s h = let a = le_true (pos 0) s (weak _ _ h) in let b = le_false s (pos 0) h in let c = lt_true (pos 0) s h in let d = lt_false s (pos 0) (weak _ _ h) in rw (a, b, c, d)

    under : (r t : Bool) (s : ℤ) → s <ℤ pos 0 → (r && int_le (pos 0) s || t && int_le s (pos 0)) ≡ (r && int_lt (pos 0) s || t && int_lt s (pos 0))
    under r t s h = let a = le_false (pos 0) s h in let b = le_true s (pos 0) (weak _ _ h) in let c = lt_false (pos 0) s (weak _ _ h) in let d = lt_true s (pos 0) h in rw (a, b, c, d)

zero_side : (s : ℤ) (t u : Bool) → (int_eq s (pos 0) && t && u) ≡ true → s ≡ pos 0
zero_side s t u h = grind (arith, ints)

pub on_side : (f : Edge) (q : Point) → is_on f q ≡ true → side f q ≡ pos 0
on_side f q on = zero_side (side f q) _ _ on

in_range : (m n x : ℤ) (u t : Bool) → ¬ (x ≡ m) → ¬ (x ≡ n) → (u && (int_le m x && int_le x n || int_le n x && int_le x m) && t) ≡ true → ((m ≤ℤ x) × (x <ℤ n)) ⊎ ((n ≤ℤ x) × (x <ℤ m))
in_range m n x u t h k on = by_lt_z x m
    (λ left. inr (grind (arith, ints), left))
    (λ right. inl (right, grind (arith, ints)))

range_weak : (m n x s : ℤ) → s ≡ pos 0 → ((m ≤ℤ x) × (x <ℤ n)) ⊎ ((n ≤ℤ x) × (x <ℤ m)) → ((int_le m x && int_lt x n) && int_le (pos 0) s || (int_le n x && int_lt x m) && int_le s (pos 0)) ≡ true
range_weak m n x s level (inl (h, k)) = let a = le_true m x h in let b = lt_true x n k in rw (level, a, b) refl
range_weak m n x s level (inr (h, k)) = let a = le_true n x h in let b = lt_true x m k in let c = le_false m x k in rw (level, a, b, c) refl

on_at : (f : Edge) (q : Point) → is_on f q ≡ true → ¬ (q.x ≡ pos q.w *ℤ f.a.x) → ¬ (q.x ≡ pos q.w *ℤ f.b.x) → is_at_or_below f q ≡ true
on_at f q on off_a off_b = range_weak (pos q.w *ℤ f.a.x) (pos q.w *ℤ f.b.x) q.x (side f q) (on_side f q on) (in_range (pos q.w *ℤ f.a.x) (pos q.w *ℤ f.b.x) q.x _ _ off_a off_b on)

-- ---- so their numbers differ in parity

count_split : (t : Edge → Bool) (before : List Edge) (e : Edge) (after : List Edge) → count_by t (before ++ (e ∷ after)) ≡ count_by t before + (cond (t e) 1 0 + count_by t after)
count_split t before e after = sum_by-append (λ f. cond (t f) 1 0) before (e ∷ after) ∙ ap (λ (n : ℕ). count_by t before + n) (sum_by-cons (λ f. cond (t f) 1 0) e after)

odd_either : (m n : ℕ) → (is_odd (m + (1 + n)) ≡ true) ⊎ (is_odd (m + (0 + n)) ≡ true)
odd_either m n = by_test (is_odd (m + (0 + n))) inr (λ even. inl (grind (arith, nat_tests)))

odd_differs : (b c : Edge → Bool) (before : List Edge) (e : Edge) (after : List Edge) → b e ≡ true → c e ≡ false → ((f : Edge) → IsAmong f (before ++ after) → b f ≡ c f)
    → (is_odd (count_by b (before ++ (e ∷ after))) ≡ true) ⊎ (is_odd (count_by c (before ++ (e ∷ after))) ≡ true)
odd_differs b c before e after has lacks same = elim (odd_either (count_by c before) (count_by c after)) [
  | inl odd ↦ inl (ap is_odd (count_split b before e after ∙ alike (b e) true (count_by b before) (count_by b after) has (count_same b c before (λ f k. same f (among_left f before after k))) (count_same b c after (λ f k. same f (among_right f before after k)))) ∙ odd)
  | inr odd ↦ inr (ap is_odd (count_split c before e after ∙ alike (c e) false (count_by c before) (count_by c after) lacks refl refl) ∙ odd)
]
  where
    alike : (t u : Bool) (m n : ℕ) → t ≡ u → m ≡ count_by c before → n ≡ count_by c after → m + (cond t 1 0 + n) ≡ count_by c before + (cond u 1 0 + count_by c after)
    alike t u m n h k l = rw (h, k, l) refl

-- ---- a point with an odd number of edges at it or below has an interior above it

odd_inside : (rings : List (List Vertex)) (z : Point) → IsGeometry (Regions rings) → 0 < z.w → is_odd (count_by (λ e. is_at_or_below e z) (flat_map edges rings)) ≡ true
    → ((f : Edge) → IsAmong f (flat_map edges rings) → is_on f z ≡ true → ¬ (run f ≡ pos 0)) → HasInterior (Regions rings)
odd_inside rings z good wide odd upright =
    let g : Figure = Regions rings in
    let above : part_above g z ≡ Interior = plain _ odd in
    share_point (IsInBoth g g (part_above g z) (part_above g z)) (IsInPart g Interior) (λ p w both. both.first ∙ above)
    (triangle_point _ (face_triangle g g z good good wide (λ f k on. elim (among_either f (flat_map edges rings) (flat_map edges rings) k) [ inl l ↦ upright f l on | inr l ↦ upright f l on ])))
  where
    plain : (odd : Bool) → odd ≡ true → (if odd then Interior else Exterior) ≡ Interior
    plain odd h = rw h refl

-- or below it, above the topmost of the edges there
below_inside : (rings : List (List Vertex)) (q : Point) → IsGeometry (Regions rings) → 0 < q.w → OffColumns (flat_map edges rings) q → is_odd (count_by (λ e. is_below e q) (flat_map edges rings)) ≡ true → HasInterior (Regions rings)
below_inside rings q good wide off odd = by_top (topmost q (flat_map edges rings) wide)
  where
    none_odd : (n : ℕ) → n ≡ 0 → is_odd n ≡ true → ⊥
    none_odd n h k = zero_odd (subst (λ (m : ℕ). is_odd m ≡ true) h k)
      where
        zero_odd : is_odd 0 ≡ true → ⊥
        zero_odd h = absurd cc

    by_top : ((f : Edge) → IsAmong f (flat_map edges rings) → is_below f q ≡ false) ⊎ IsTop q (flat_map edges rings) → HasInterior (Regions rings)
    by_top (inl none) = absurd (none_odd _ (count_none (λ e. is_below e q) (flat_map edges rings) none) odd)
    by_top (inr top) =
        odd_inside rings top.point good top.is_foot.wide
        (ap is_odd (sym (count_same (λ e. is_below e q) (λ e. is_at_or_below e top.point) (flat_map edges rings) (below_agrees q (flat_map edges rings) wide top))) ∙ odd)
        (upright_there (flat_map edges rings) q top.point wide top.is_foot.wide off top.is_foot.straight)

-- so an area has one at an edge that isn't vertical, if its rings are proper
pub slanted_inside : (rings : List (List Vertex)) (e : Edge) → IsGeometry (Regions rings) → AreProper (flat_map edges rings) → IsAmong e (flat_map edges rings) → ¬ (e.a.x ≡ e.b.x) → HasInterior (Regions rings)
slanted_inside rings e good proper k slanted = from_columns (columns_large es e slanted) (beside es e k proper)
  where
    es : List Edge
    es = flat_map edges rings

    apart : ¬ (IsSamePlace (at e.a) (at e.b))
    apart same = slanted (plain e.a.x e.b.x same.0)
      where
        plain : (m n : ℤ) → m *ℤ pos 1 ≡ n *ℤ pos 1 → m ≡ n
        plain m n h = omega (arith, ints)

    at_point : (n : ℕ) → OffColumns es (between (at e.a) (at e.b) n) → (b : Beside es e) → ((f : Edge) → IsAmong f (b.before ++ b.after) → is_on f (between (at e.a) (at e.b) n) ≡ false) → HasInterior (Regions rings)
    at_point n off b away =
        let q = between (at e.a) (at e.b) n in
        let wide : 0 < q.w = omega arith in
        let on = on_mix e 1 n in
        elim (odd_differs (λ f. is_at_or_below f q) (λ f. is_below f q) b.before e b.after (on_at e q on (off e k).0 (off e k).1) (level_not_below e q wide (on_side e q on)) (λ f l. off_agrees f q wide (away f l))) [
          | inl odd ↦ odd_inside rings q good wide (subst (λ (fs : List Edge). is_odd (count_by (λ f. is_at_or_below f q) fs) ≡ true) (sym b.split) odd) (upright_there es q q wide wide off refl)
          | inr odd ↦ below_inside rings q good wide off (subst (λ (fs : List Edge). is_odd (count_by (λ f. is_below f q) fs) ≡ true) (sym b.split) odd)
        ]

    from_columns : Large (λ n. OffColumns es (between (at e.a) (at e.b) n)) → Beside es e → HasInterior (Regions rings)
    from_columns (m, off) b =
        let far = away_from e (b.before ++ b.after) apart b.meet m in
        at_point (m + far.0) (off (m + far.0) (omega arith)) b far.1
