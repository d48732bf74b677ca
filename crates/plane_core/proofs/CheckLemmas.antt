-- The results of the tests of a geometry.
use Rattle.std.proofs.Common.{◌≡◌, ◌≤◌, ◌<◌, ◌+◌, ℕ, arith, refl, sym, subst, ap, ◌∙◌, true, false, List, [], ◌∷◌, length, get_or, drop, All, suc}
use Rattle.std.specs.Prelude.{ℤ, Bool, ◌&&◌, ◌==◌, not, nat_lt, nat_le}
use Rattle.std.specs.List.{list_all, slice_range}
use Rattle.std.specs.Ordering.{int_eq}
use Rattle.std.proofs.lemmas.Int.{ints}
use Rattle.std.proofs.lemmas.List.{drop_more}
use Rattle.std.proofs.lemmas.List.Elements.{All-cons, All-nil}
use Rattle.std.proofs.Props.{props}
use mathlib.Core.HLevel.{is_prop→PathP}
use Rattle.plane_core.specs.declared.vertex.Vertex.{Vertex}
use Rattle.plane_core.specs.declared.edge.Edge.{Edge}
use Rattle.plane_core.specs.declared.outline.Kind.{Kind}
use Rattle.plane_core.specs.declared.outline.Kind.TheVariants.{Points as Dots, Lines as Polylines, Areas as Rings}
use Rattle.plane_core.specs.Limits.{IsCoordinate}
use Rattle.plane_core.specs.Figures.{edges, last_or, HasLength, IsPath, IsClosed, IsRing, IsGeometry}
use Rattle.plane_core.specs.Stored.{paths_of, stored_figure, AreCuts, AreCutsFor, IsStored}
use Rattle.plane_core.specs.Checks.{are_cuts, are_cuts_for, is_same_vertex, has_length, is_path, is_closed, is_ring, is_filled, is_stored}

-- tests and facts
pub and_first : (a b : Bool) → (a && b) ≡ true → a ≡ true
and_first true b h = refl
and_first false b h = cc

pub and_second : (a b : Bool) → (a && b) ≡ true → b ≡ true
and_second true b h = h
and_second false b h = cc

and_both : (a b : Bool) → a ≡ true → b ≡ true → (a && b) ≡ true
and_both a b h k = rw (h, k) refl

le_fact : (m n : ℕ) → nat_le m n ≡ true → m ≤ n
le_fact m n h = grind arith

le_test : (m n : ℕ) → m ≤ n → nat_le m n ≡ true
le_test m n h = grind arith

lt_fact : (m n : ℕ) → nat_lt m n ≡ true → m < n
lt_fact m n h = grind arith

lt_test : (m n : ℕ) → m < n → nat_lt m n ≡ true
lt_test m n h = grind arith

same_fact : (m n : ℕ) → (m == n) ≡ true → m ≡ n
same_fact m n h = grind arith

same_test : (m n : ℕ) → m ≡ n → (m == n) ≡ true
same_test m n h = grind arith

eq_fact : (m n : ℤ) → int_eq m n ≡ true → m ≡ n
eq_fact m n h = grind (arith, ints)

eq_test : (m n : ℤ) → m ≡ n → int_eq m n ≡ true
eq_test m n h = grind (arith, ints)

-- the ends of paths
pub cuts_fact : (start : ℕ) (ends : List ℕ) (n : ℕ) → are_cuts start ends n ≡ true → AreCuts start ends n
cuts_fact start [] n h = same_fact start n h
cuts_fact start (end ∷ ends) n h = (le_fact start end (and_first _ _ h), cuts_fact end ends n (and_second (nat_le start end) _ h))

cuts_test : (start : ℕ) (ends : List ℕ) (n : ℕ) → AreCuts start ends n → are_cuts start ends n ≡ true
cuts_test start [] n h = same_test start n h
cuts_test start (end ∷ ends) n h = and_both _ _ (le_test start end h.0) (cuts_test end ends n h.1)

pub cuts_for_fact : (kind : Kind) (ends : List ℕ) (n : ℕ) → are_cuts_for kind ends n ≡ true → AreCutsFor kind ends n
cuts_for_fact Dots ends n h = tt
cuts_for_fact Polylines ends n h = cuts_fact 0 ends n h
cuts_for_fact Rings ends n h = cuts_fact 0 ends n h

cuts_for_test : (kind : Kind) (ends : List ℕ) (n : ℕ) → AreCutsFor kind ends n → are_cuts_for kind ends n ≡ true
cuts_for_test Dots ends n h = refl
cuts_for_test Polylines ends n h = cuts_test 0 ends n h
cuts_for_test Rings ends n h = cuts_test 0 ends n h

rest_cuts : (ends : List ℕ) (i end : ℕ) → i < length ends → end ≡ get_or ends i end → drop i ends ≡ end ∷ drop (i + 1) ends
rest_cuts ends i end lt is = drop_more ends i end lt ∙ ap (λ (x : ℕ). x ∷ drop (i + 1) ends) (sym is)

pub cut_failed : (all : Bool) (start : ℕ) (ends : List ℕ) (n i end : ℕ) → i < length ends → end ≡ get_or ends i end
    → all ≡ are_cuts start (drop i ends) n → end < start → false ≡ all
cut_failed all start ends n i end lt is h less =
    sym (h ∙ ap (λ (xs : List ℕ). are_cuts start xs n) (rest_cuts ends i end lt is) ∙ ap (λ (t : Bool). t && are_cuts end (drop (i + 1) ends) n) (no start end less))
  where
    no : (m n : ℕ) → n < m → nat_le m n ≡ false
    no m n h = grind arith

pub cut_passed : (all : Bool) (start : ℕ) (ends : List ℕ) (n i end : ℕ) → i < length ends → end ≡ get_or ends i end
    → all ≡ are_cuts start (drop i ends) n → start ≤ end → all ≡ are_cuts end (drop (i + 1) ends) n
cut_passed all start ends n i end lt is h le =
    h ∙ ap (λ (xs : List ℕ). are_cuts start xs n) (rest_cuts ends i end lt is) ∙ ap (λ (t : Bool). t && are_cuts end (drop (i + 1) ends) n) (le_test start end le)

pub path_passed : (f : List Vertex → Bool) (all : Bool) (start : ℕ) (ends : List ℕ) (vs : List Vertex) (i end : ℕ) (is_right right : Bool) → i < length ends → end ≡ get_or ends i end
    → all ≡ (is_right && list_all f (paths_of start (drop i ends) vs)) → right ≡ f (slice_range vs start end)
    → all ≡ (is_right && right && list_all f (paths_of end (drop (i + 1) ends) vs))
path_passed f all start ends vs i end is_right right lt is h k =
    h ∙ ap (λ (xs : List ℕ). is_right && list_all f (paths_of start xs vs)) (rest_cuts ends i end lt is)
    ∙ ap (λ (t : Bool). is_right && (t && list_all f (paths_of end (drop (i + 1) ends) vs))) (sym k)
    ∙ regroup is_right right (list_all f (paths_of end (drop (i + 1) ends) vs))
  where
    regroup : (a b c : Bool) → (a && (b && c)) ≡ (a && b && c)
    regroup true b c = refl
    regroup false b c = refl

by_bool : {P : Type 0} (t : Bool) → (t ≡ true → P) → (t ≡ false → P) → P
by_bool true f g = f refl
by_bool false f g = g refl

clash : (t : Bool) → t ≡ true → t ≡ false → ⊥
clash t h k = cc

-- vertices
same_vertex : (v w : Vertex) → v.x ≡ w.x → v.y ≡ w.y → v ≡ w
same_vertex v w p q = λ i. record {
  x = p i;
  y = q i;
  x_in_range = is_prop→PathP (λ j. IsCoordinate (p j)) (λ j. hlevel props) v.x_in_range w.x_in_range i;
  y_in_range = is_prop→PathP (λ j. IsCoordinate (q j)) (λ j. hlevel props) v.y_in_range w.y_in_range i;
}

vertex_fact : (v w : Vertex) → is_same_vertex v w ≡ true → v ≡ w
vertex_fact v w h = same_vertex v w (eq_fact v.x w.x (and_first _ _ h)) (eq_fact v.y w.y (and_second (int_eq v.x w.x) _ h))

vertex_test : (v w : Vertex) → v ≡ w → is_same_vertex v w ≡ true
vertex_test v w e = and_both _ _ (eq_test v.x w.x (ap (λ (u : Vertex). u.x) e)) (eq_test v.y w.y (ap (λ (u : Vertex). u.y) e))

length_fact : (e : Edge) → has_length e ≡ true → HasLength e
length_fact e h both = clash (has_length e) h (ap not (and_both _ _ (eq_test e.a.x e.b.x both.0) (eq_test e.a.y e.b.y both.1)))

length_test : (e : Edge) → HasLength e → has_length e ≡ true
length_test e long = by_bool (is_same_vertex e.a e.b)
    (λ yes. absurd (long (eq_fact _ _ (and_first _ _ yes), eq_fact _ _ (and_second (int_eq e.a.x e.b.x) _ yes))))
    (λ no. ap not no)

-- lists
all_fact : {A : Type 0} (f : A → Bool) (P : A → Type 0) → ((x : A) → f x ≡ true → P x) → (xs : List A) → list_all f xs ≡ true → All P xs
all_fact f P g [] h = All-nil P
all_fact f P g (x ∷ xs) h = All-cons P x xs (g x (and_first _ _ h)) (all_fact f P g xs (and_second (f x) _ h))

all_test : {A : Type 0} (f : A → Bool) (P : A → Type 0) → ((x : A) → P x → f x ≡ true) → (xs : List A) → All P xs → list_all f xs ≡ true
all_test f P g [] h = refl
all_test f P g (x ∷ xs) h = and_both _ _ (g x (h 0 x (omega arith))) (all_test f P g xs (λ k d lt. h (suc k) d (omega (arith, lt))))

-- paths
long_fact : (path : List Vertex) → 2 ≤ length path → 0 < length (edges path)
long_fact [] h = absurd (no h)
  where
    no : 2 ≤ 0 → ⊥
    no h = omega arith
long_fact (a ∷ []) h = absurd (no h)
  where
    no : 2 ≤ length (a ∷ []) → ⊥
    no h = omega arith
long_fact (a ∷ b ∷ rest) h = omega arith

long_test : (path : List Vertex) → 0 < length (edges path) → 2 ≤ length path
long_test [] h = absurd (no h)
  where
    no : 0 < 0 → ⊥
    no h = omega arith
long_test (a ∷ []) h = absurd (no h)
  where
    no : 0 < 0 → ⊥
    no h = omega arith
long_test (a ∷ b ∷ rest) h = omega arith

path_fact : (path : List Vertex) → is_path path ≡ true → IsPath path
path_fact path h = record {
  long = long_fact path (le_fact 2 (length path) (and_second (list_all has_length (edges path)) _ h));
  steps = all_fact has_length HasLength length_fact (edges path) (and_first _ _ h);
}

path_test : (path : List Vertex) → IsPath path → is_path path ≡ true
path_test path h = and_both _ _ (all_test has_length HasLength length_test (edges path) h.steps) (le_test 2 (length path) (long_test path h.long))

closed_fact : (path : List Vertex) → is_closed path ≡ true → IsClosed path
closed_fact [] h = tt
closed_fact (a ∷ rest) h = vertex_fact (last_or a rest) a h

closed_test : (path : List Vertex) → IsClosed path → is_closed path ≡ true
closed_test [] h = refl
closed_test (a ∷ rest) h = vertex_test (last_or a rest) a h

ring_fact : (ring : List Vertex) → is_ring ring ≡ true → IsRing ring
ring_fact ring h = record { path = path_fact ring (and_first _ _ h); closed = closed_fact ring (and_second (is_path ring) _ h) }

ring_test : (ring : List Vertex) → IsRing ring → is_ring ring ≡ true
ring_test ring h = and_both _ _ (path_test ring h.path) (closed_test ring h.closed)

-- the whole
path_count : (start : ℕ) (ends : List ℕ) (vs : List Vertex) → length (paths_of start ends vs) ≡ length ends
path_count start [] vs = refl
path_count start (end ∷ ends) vs = ap suc (path_count end ends vs)

filled_fact : (kind : Kind) (ends : List ℕ) (vs : List Vertex) → is_filled kind ends vs ≡ true → IsGeometry (stored_figure kind ends vs)
filled_fact Dots ends vs h = lt_fact 0 (length vs) h
filled_fact Polylines ends vs h = (
  subst (λ (n : ℕ). 0 < n) (sym (path_count 0 ends vs)) (lt_fact 0 (length ends) (and_first _ _ h)),
  all_fact is_path IsPath path_fact (paths_of 0 ends vs) (and_second (nat_lt 0 (length ends)) _ h),
)
filled_fact Rings ends vs h = (
  subst (λ (n : ℕ). 0 < n) (sym (path_count 0 ends vs)) (lt_fact 0 (length ends) (and_first _ _ h)),
  all_fact is_ring IsRing ring_fact (paths_of 0 ends vs) (and_second (nat_lt 0 (length ends)) _ h),
)

filled_test : (kind : Kind) (ends : List ℕ) (vs : List Vertex) → IsGeometry (stored_figure kind ends vs) → is_filled kind ends vs ≡ true
filled_test Dots ends vs h = lt_test 0 (length vs) h
filled_test Polylines ends vs h = and_both _ _
    (lt_test 0 (length ends) (subst (λ (n : ℕ). 0 < n) (path_count 0 ends vs) h.0)) (all_test is_path IsPath path_test (paths_of 0 ends vs) h.1)
filled_test Rings ends vs h = and_both _ _
    (lt_test 0 (length ends) (subst (λ (n : ℕ). 0 < n) (path_count 0 ends vs) h.0)) (all_test is_ring IsRing ring_test (paths_of 0 ends vs) h.1)

pub stored_fact : (kind : Kind) (ends : List ℕ) (vs : List Vertex) → is_stored kind ends vs ≡ true → IsStored kind ends vs
stored_fact kind ends vs h = record {
  cuts = cuts_for_fact kind ends (length vs) (and_first _ _ h);
  geometry = filled_fact kind ends vs (and_second (are_cuts_for kind ends (length vs)) _ h);
}

pub stored_test : (kind : Kind) (ends : List ℕ) (vs : List Vertex) → IsStored kind ends vs → is_stored kind ends vs ≡ true
stored_test kind ends vs h = and_both _ _ (cuts_for_test kind ends (length vs) h.cuts) (filled_test kind ends vs h.geometry)

-- the same in other lists
pub stored_as : (kind : Kind) (ends needed own : List ℕ) (vs held : List Vertex) → own ≡ needed → held ≡ vs
    → ((ws : List Vertex) → IsStored kind ends ws → IsStored kind needed ws) → IsStored kind ends vs → IsStored kind own held
stored_as kind ends needed own vs held is same needs h = rw (is, same) (needs vs h)

pub figure_as : (kind : Kind) (ends needed own : List ℕ) (vs held : List Vertex) → own ≡ needed → held ≡ vs
    → ((ws : List Vertex) → stored_figure kind needed ws ≡ stored_figure kind ends ws) → stored_figure kind own held ≡ stored_figure kind ends vs
figure_as kind ends needed own vs held is same needs = rw (is, same) (needs vs)

pub not_stored : (kind : Kind) (ends : List ℕ) (vs : List Vertex) → is_stored kind ends vs ≡ false → ¬ (IsStored kind ends vs)
not_stored kind ends vs h s = clash (is_stored kind ends vs) (stored_test kind ends vs s) h

pub stored_iff : (t : Bool) (kind : Kind) (ends : List ℕ) (vs : List Vertex) → t ≡ is_stored kind ends vs
    → (t ≡ true → IsStored kind ends vs) × (IsStored kind ends vs → t ≡ true)
stored_iff t kind ends vs e = (λ h. stored_fact kind ends vs (sym e ∙ h), λ s. e ∙ stored_test kind ends vs s)
