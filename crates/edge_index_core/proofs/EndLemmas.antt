-- Vertices in order: those at a point stand together, and those on an edge between its left and right end.
use Rattle.std.proofs.Common.{arith, ◌≡◌, ◌<◌, ◌≤◌, ◌+◌, ◌-◌, ◌⊎◌, inl, inr, ℕ, zero, suc, Bool, true, false, not, cond, ◌&&◌, ◌||◌, List, [], ◌∷◌, length, get_or, take, drop, length-take, length-drop, min, refl, sym, ap, ◌∙◌, rules, All}
use Rattle.std.specs.Prelude.{ℤ, pos, ◌*ℤ◌, ◌<ℤ◌, ◌≤ℤ◌, count_by, int_lt, int_le, IsSorted}
use Rattle.std.specs.List.{list_any, Contains}
use Rattle.std.specs.List.Sorted.{IsPartitionedBy, IsPartitionPoint, IsPermutation}
use Rattle.std.specs.Cmp.{IsStrictWeakOrder}
use Rattle.std.specs.Ordering.{int_cmp, int_eq, ordering_then, is_lt, is_gt, is_ge}
use Rattle.std.specs.declared.cmp.Ordering.{Ordering}
use Rattle.std.proofs.lemmas.Cmp.{int_cmp_total, on_total, then_total}
use Rattle.std.proofs.lemmas.Bool.{cases_lt}
use Rattle.std.proofs.lemmas.Int.{ints}
use Rattle.std.proofs.lemmas.List.{get_or-take, get_or-drop}
use Rattle.std.proofs.lemmas.List.Elements.{All-contains, All-contains_itself, All-drop, All-take}
use Rattle.std.proofs.lemmas.List.Folds.{Any-from_list_any, list_any_at}
use Rattle.std.proofs.lemmas.List.Sorted.{ranks_by, sorted_far, list_any-IsPermutation, Contains-permutation, IsPermutation-sym}
use Rattle.std.proofs.lemmas.List.Sums.{sum_by-cons}
use Rattle.plane_core.specs.declared.vertex.Vertex.{Vertex}
use Rattle.plane_core.specs.declared.edge.Edge.{Edge}
use Rattle.plane_core.specs.Points.{Point, at, is_at, is_on, is_between, side}
use Rattle.plane_core.specs.Places.{place_order}
use Rattle.plane_core.specs.Outlines.{count_at}
use Rattle.plane_core.proofs.Ring.{times-one, times_comm, one-times}
use Rattle.plane_core.proofs.ScaleLemmas.{less_scaled, no_less_scaled}
use Rattle.plane_core.proofs.Signs.{wide_z}
use Rattle.edge_index_core.specs.Ends.{vertex_order, AreInOrder, is_before, is_up_to, is_left_of, is_left_to, IsParted, AreAlong}

-- ---- the order

pub vertices_ranked : IsStrictWeakOrder (λ (u : Vertex) v. is_lt (vertex_order u v))
vertices_ranked = ranks_by (then_total (on_total (λ (v : Vertex). v.x) int_cmp_total) (on_total (λ (v : Vertex). v.y) int_cmp_total)) (λ v. v)

-- further left, or not above and as far
abbrev IsFirst : Vertex → Vertex → Type 0
IsFirst u v = (u.x <ℤ v.x) ⊎ ((u.x ≡ v.x) × (u.y ≤ℤ v.y))

first_is : (u v : Vertex) → is_lt (vertex_order v u) ≡ false → IsFirst u v
first_is u v h = plain v.x u.x v.y u.y h
  where
    plain : (a b c d : ℤ) → is_lt (ordering_then (int_cmp a b) (int_cmp c d)) ≡ false → (b <ℤ a) ⊎ ((b ≡ a) × (d ≤ℤ c))
    plain a b c d h = grind (arith, ints)

-- a test that passes vertices up to some place in this order parts them
parted : (f : Vertex → Bool) (vs : List Vertex) → ((u v : Vertex) → IsFirst u v → f v ≡ true → f u ≡ true) → IsSorted vertex_order vs → IsPartitionedBy f vs
parted f vs back order = λ i j d le lt yes.
    back (get_or vs i d) (get_or vs j d) (first_is (get_or vs i d) (get_or vs j d) (sorted_far (λ u v. is_lt (vertex_order u v)) vertices_ranked vs order i j d le lt)) yes

-- both coordinates over those of a point
IsFirst-scaled : (w : ℤ) (u v : Vertex) → pos 0 <ℤ w → IsFirst u v → ((u.x *ℤ w) <ℤ (v.x *ℤ w)) ⊎ ((u.x *ℤ w ≡ v.x *ℤ w) × ((u.y *ℤ w) ≤ℤ (v.y *ℤ w)))
IsFirst-scaled w u v wide (inl h) = inl (rw (times_comm u.x w, times_comm v.x w) (less_scaled w u.x v.x wide h))
IsFirst-scaled w u v wide (inr h) = inr (ap (λ (z : ℤ). z *ℤ w) h.0, rw (times_comm u.y w, times_comm v.y w) (no_less_scaled w u.y v.y wide h.1))

before_back : (p : Point) → 0 < p.w → (u v : Vertex) → IsFirst u v → is_before p v ≡ true → is_before p u ≡ true
before_back p wide u v first h = plain (p.x *ℤ pos 1) (u.x *ℤ pos p.w) (v.x *ℤ pos p.w) (p.y *ℤ pos 1) (u.y *ℤ pos p.w) (v.y *ℤ pos p.w) (IsFirst-scaled (pos p.w) u v (wide_z p.w wide) first) h
  where
    plain : (x a b y c d : ℤ) → (a <ℤ b) ⊎ ((a ≡ b) × (c ≤ℤ d)) → is_gt (ordering_then (int_cmp x b) (int_cmp y d)) ≡ true → is_gt (ordering_then (int_cmp x a) (int_cmp y c)) ≡ true
    plain x a b y c d (inl h) g = grind (arith, ints)
    plain x a b y c d (inr h) g = let e = h.0 in let f = h.1 in grind (arith, ints)

up_to_back : (p : Point) → 0 < p.w → (u v : Vertex) → IsFirst u v → is_up_to p v ≡ true → is_up_to p u ≡ true
up_to_back p wide u v first h = plain (p.x *ℤ pos 1) (u.x *ℤ pos p.w) (v.x *ℤ pos p.w) (p.y *ℤ pos 1) (u.y *ℤ pos p.w) (v.y *ℤ pos p.w) (IsFirst-scaled (pos p.w) u v (wide_z p.w wide) first) h
  where
    plain : (x a b y c d : ℤ) → (a <ℤ b) ⊎ ((a ≡ b) × (c ≤ℤ d)) → is_ge (ordering_then (int_cmp x b) (int_cmp y d)) ≡ true → is_ge (ordering_then (int_cmp x a) (int_cmp y c)) ≡ true
    plain x a b y c d (inl h) g = grind (arith, ints)
    plain x a b y c d (inr h) g = let e = h.0 in let f = h.1 in grind (arith, ints)

pub before_parts : (p : Point) (vs : List Vertex) → 0 < p.w → IsSorted vertex_order vs → IsPartitionedBy (is_before p) vs
before_parts p vs wide order = parted (is_before p) vs (before_back p wide) order

pub up_to_parts : (p : Point) (vs : List Vertex) → 0 < p.w → IsSorted vertex_order vs → IsPartitionedBy (is_up_to p) vs
up_to_parts p vs wide order = parted (is_up_to p) vs (up_to_back p wide) order

pub left_of_parts : (e : Edge) (vs : List Vertex) → IsSorted vertex_order vs → IsPartitionedBy (is_left_of e) vs
left_of_parts e vs order = parted (is_left_of e) vs (λ u v first h. plain e.a.x e.b.x u.x v.x u.y v.y first h) order
  where
    plain : (x y a b c d : ℤ) → (a <ℤ b) ⊎ ((a ≡ b) × (c ≤ℤ d)) → (int_lt b x && int_lt b y) ≡ true → (int_lt a x && int_lt a y) ≡ true
    plain x y a b c d (inl h) g = grind (arith, ints)
    plain x y a b c d (inr h) g = let e = h.0 in grind (arith, ints)

pub left_to_parts : (e : Edge) (vs : List Vertex) → IsSorted vertex_order vs → IsPartitionedBy (is_left_to e) vs
left_to_parts e vs order = parted (is_left_to e) vs (λ u v first h. plain e.a.x e.b.x u.x v.x u.y v.y first h) order
  where
    plain : (x y a b c d : ℤ) → (a <ℤ b) ⊎ ((a ≡ b) × (c ≤ℤ d)) → (int_le b x || int_le b y) ≡ true → (int_le a x || int_le a y) ≡ true
    plain x y a b c d (inl h) g = grind (arith, ints)
    plain x y a b c d (inr h) g = let e = h.0 in grind (arith, ints)

-- of two such tests, the one that passes more passes longer
no_later : (f g : Vertex → Bool) (vs : List Vertex) (i j : ℕ) → ((v : Vertex) → f v ≡ true → g v ≡ true) → i ≤ length vs → j ≤ length vs → IsParted f vs i → IsParted g vs j → i ≤ j
no_later f g [] i j more hi hj first last = omega (arith, hi)
no_later f g (d ∷ vs) i j more hi hj first last = elim (cases_lt j i) [
  | inl lt ↦ absurd (clash (g (get_or (d ∷ vs) j d)) (more (get_or (d ∷ vs) j d) (first.0 j d (omega arith) lt)) (last.1 j d (omega arith) (omega (arith, lt, hi))))
  | inr le ↦ le
]
  where
    clash : (t : Bool) → t ≡ true → t ≡ false → ⊥
    clash t h k = cc

-- ---- the vertices at a point

before_up_to : (p : Point) (v : Vertex) → is_before p v ≡ true → is_up_to p v ≡ true
before_up_to p v h = plain (place_order p (at v)) h
  where
    plain : (o : Ordering) → is_gt o ≡ true → is_ge o ≡ true
    plain o h = grind (arith, ints)

-- neither before it nor after it
at_order : (p : Point) (v : Vertex) → is_at v p ≡ (is_up_to p v && not (is_before p v))
at_order p v =
    rw (times_comm (pos p.w) v.x, times_comm (pos p.w) v.y, times-one p.x, times-one p.y)
    (plain p.x (v.x *ℤ pos p.w) p.y (v.y *ℤ pos p.w))
  where
    plain : (a b c d : ℤ) → (int_eq a b && int_eq c d) ≡ (is_ge (ordering_then (int_cmp a b) (int_cmp c d)) && not (is_gt (ordering_then (int_cmp a b) (int_cmp c d))))
    plain a b c d = grind (arith, ints)

at_from : (t u : Bool) (s : Bool) → s ≡ (t && not u) → t ≡ true → u ≡ false → s ≡ true
at_from t u s e h k = rw (e, h, k) refl

off_before : (t u : Bool) (s : Bool) → s ≡ (t && not u) → u ≡ true → s ≡ false
off_before true u s e k = rw (e, k) refl
off_before false u s e k = e

off_after : (t u : Bool) (s : Bool) → s ≡ (t && not u) → t ≡ false → s ≡ false
off_after t u s e h = rw (e, h) refl

cons_no : {X : Type 0} (f : X → Bool) (x : X) (xs : List X) → f x ≡ false → count_by f (x ∷ xs) ≡ count_by f xs
cons_no f x xs h = sum_by-cons (λ y. cond {A = ℕ} (f y) 1 0) x xs ∙ plain (f x) (count_by f xs) h
  where
    plain : (t : Bool) (n : ℕ) → t ≡ false → cond {A = ℕ} t 1 0 + n ≡ n
    plain t n h = rw h (omega arith)

cons_yes : {X : Type 0} (f : X → Bool) (x : X) (xs : List X) → f x ≡ true → count_by f (x ∷ xs) ≡ 1 + count_by f xs
cons_yes f x xs h = sum_by-cons (λ y. cond {A = ℕ} (f y) 1 0) x xs ∙ ap (λ (t : Bool). cond {A = ℕ} t 1 0 + count_by f xs) h

-- the number of items that pass a test, if these stand together
count_run : {X : Type 0} (f : X → Bool) (xs : List X) (i j : ℕ) → i ≤ j → j ≤ length xs
    → ((k : ℕ) (d : X) → k < i → f (get_or xs k d) ≡ false)
    → ((k : ℕ) (d : X) → i ≤ k → k < j → f (get_or xs k d) ≡ true)
    → ((k : ℕ) (d : X) → j ≤ k → k < length xs → f (get_or xs k d) ≡ false)
    → count_by f xs + i ≡ j
count_run f [] i j le within before here after = omega arith
count_run f (x ∷ xs) zero zero le within before here after =
    let rest = count_run f xs 0 0 (omega arith) (omega arith) (λ k d lt. absurd (none k lt)) (λ k d lo lt. absurd (none k lt)) (λ k d lo lt. after (suc k) d (omega arith) (omega (arith, lt))) in
    omega (arith, rest, cons_no f x xs (after 0 x (omega arith) (omega arith)))
  where
    none : (k : ℕ) → k < 0 → ⊥
    none k lt = omega arith
count_run f (x ∷ xs) zero (suc j) le within before here after =
    let rest = count_run f xs 0 j (omega arith) (omega (arith, within)) (λ k d lt. absurd (none k lt)) (λ k d lo lt. here (suc k) d (omega arith) (omega (arith, lt))) (λ k d lo lt. after (suc k) d (omega (arith, lo)) (omega (arith, lt))) in
    omega (arith, rest, cons_yes f x xs (here 0 x (omega arith) (omega arith)))
  where
    none : (k : ℕ) → k < 0 → ⊥
    none k lt = omega arith
count_run f (x ∷ xs) (suc i) zero le within before here after = absurd (none i le)
  where
    none : (n : ℕ) → suc n ≤ 0 → ⊥
    none n h = omega arith
count_run f (x ∷ xs) (suc i) (suc j) le within before here after =
    let rest = count_run f xs i j (omega (arith, le)) (omega (arith, within)) (λ k d lt. before (suc k) d (omega (arith, lt))) (λ k d lo lt. here (suc k) d (omega (arith, lo)) (omega (arith, lt))) (λ k d lo lt. after (suc k) d (omega (arith, lo)) (omega (arith, lt))) in
    omega (arith, rest, cons_no f x xs (before 0 x (omega arith)))

pub here_order : (p : Point) (vs : List Vertex) (i j : ℕ) → i ≤ length vs → j ≤ length vs → IsParted (is_before p) vs i → IsParted (is_up_to p) vs j → i ≤ j
here_order p vs i j = no_later (is_before p) (is_up_to p) vs i j (before_up_to p)

pub here_count : (p : Point) (vs : List Vertex) (i j : ℕ) → i ≤ j → j ≤ length vs → IsParted (is_before p) vs i → IsParted (is_up_to p) vs j → count_at vs p + i ≡ j
here_count p vs i j le within first last =
    count_run (λ v. is_at v p) vs i j le within
    (λ k d lt. let v = get_or vs k d in off_before (is_up_to p v) (is_before p v) (is_at v p) (at_order p v) (first.0 k d (omega arith) lt))
    (λ k d lo lt. let v = get_or vs k d in at_from (is_up_to p v) (is_before p v) (is_at v p) (at_order p v) (last.0 k d (omega arith) lt) (first.1 k d lo (omega (arith, lt, within))))
    (λ k d lo lt. let v = get_or vs k d in off_after (is_up_to p v) (is_before p v) (is_at v p) (at_order p v) (last.1 k d lo lt))

-- ---- the vertices on an edge

and_off : (s t u : Bool) → t ≡ false → (s && t && u) ≡ false
and_off true t u h = rw h refl
and_off false t u h = refl

off_across : (e : Edge) (v : Vertex) → is_between e.a.x e.b.x 1 v.x ≡ false → is_on e (at v) ≡ false
off_across e v h = and_off (int_eq (side e (at v)) (pos 0)) (is_between e.a.x e.b.x 1 v.x) (is_between e.a.y e.b.y 1 v.y) h

off_left : (e : Edge) (v : Vertex) → is_left_of e v ≡ true → is_on e (at v) ≡ false
off_left e v h = off_across e v (rw (one-times e.a.x, one-times e.b.x) (plain e.a.x e.b.x v.x h))
  where
    plain : (a b z : ℤ) → (int_lt z a && int_lt z b) ≡ true → (int_le a z && int_le z b || int_le b z && int_le z a) ≡ false
    plain a b z h = grind (arith, ints)

off_right : (e : Edge) (v : Vertex) → is_left_to e v ≡ false → is_on e (at v) ≡ false
off_right e v h = off_across e v (rw (one-times e.a.x, one-times e.b.x) (plain e.a.x e.b.x v.x h))
  where
    plain : (a b z : ℤ) → (int_le z a || int_le z b) ≡ false → (int_le a z && int_le z b || int_le b z && int_le z a) ≡ false
    plain a b z h = grind (arith, ints)

left_to_right : (e : Edge) (v : Vertex) → is_left_of e v ≡ true → is_left_to e v ≡ true
left_to_right e v h = plain e.a.x e.b.x v.x h
  where
    plain : (a b z : ℤ) → (int_lt z a && int_lt z b) ≡ true → (int_le z a || int_le z b) ≡ true
    plain a b z h = grind (arith, ints)

pub window_order : (e : Edge) (vs : List Vertex) (i j : ℕ) → i ≤ length vs → j ≤ length vs → IsParted (is_left_of e) vs i → IsParted (is_left_to e) vs j → i ≤ j
window_order e vs i j = no_later (is_left_of e) (is_left_to e) vs i j (left_to_right e)

-- an item that passes a test is in a window beyond which none does
held_window : {X : Type 0} (f : X → Bool) (xs : List X) (i n : ℕ) (x : X)
    → ((k : ℕ) (d : X) → k < i → f (get_or xs k d) ≡ false)
    → ((k : ℕ) (d : X) → i + n ≤ k → k < length xs → f (get_or xs k d) ≡ false)
    → Contains xs x → f x ≡ true → Contains (take n (drop i xs)) x
held_window f xs i n x before after (k, lt, is) holds = elim (cases_lt k i) [
  | inl low ↦ absurd (clash (f x) holds (ap f (sym is) ∙ before k x low))
  | inr from_ ↦ elim (cases_lt k (i + n)) [
    | inl to_ ↦ (
      k - i,
      short (length-take n (drop i xs)) (length-drop i xs) from_ to_,
      get_or-take n (drop i xs) (k - i) x (omega arith) ∙ get_or-drop i xs (k - i) x ∙ ap (λ (m : ℕ). get_or xs m x) (back from_) ∙ is,
    )
    | inr high ↦ absurd (clash (f x) holds (ap f (sym is) ∙ after k x high lt))
  ]
]
  where
    clash : (t : Bool) → t ≡ true → t ≡ false → ⊥
    clash t h k = cc

    back : i ≤ k → i + (k - i) ≡ k
    back h = omega arith

    short : length (take n (drop i xs)) ≡ min n (length (drop i xs)) → length (drop i xs) ≡ length xs - i → i ≤ k → k < i + n → k - i < length (take n (drop i xs))
    short a b h g = omega (arith, lt)

pub window_along : (e : Edge) (vs : List Vertex) (i j : ℕ) → i ≤ j → IsParted (is_left_of e) vs i → IsParted (is_left_to e) vs j → AreAlong e vs (take (j - i) (drop i vs))
window_along e vs i j le first last = record {
  own = All-take (Contains vs) (j - i) (drop i vs) (All-drop (Contains vs) i vs (All-contains_itself vs));
  kept = λ v one on. held_window (λ u. is_on e (at u)) vs i (j - i) v
      (λ k d lt. off_left e (get_or vs k d) (first.0 k d (omega arith) lt))
      (λ k d lo lt. off_right e (get_or vs k d) (last.1 k d (omega (arith, lo, le)) lt))
      one on;
}

-- so whether a vertex is on the edge is known by these
any_of : (e : Edge) (vs ws : List Vertex) → ((v : Vertex) → Contains vs v → is_on e (at v) ≡ true → Contains ws v) → list_any (λ v. is_on e (at v)) vs ≡ true → list_any (λ v. is_on e (at v)) ws ≡ true
any_of e vs ws kept holds =
    let some = Any-from_list_any (λ v. is_on e (at v)) vs holds in
    let here = kept some.1 (some.0, some.2, some.3) some.4 in
    list_any_at (λ v. is_on e (at v)) ws here.0 some.1 here.1 (ap (λ (u : Vertex). is_on e (at u)) here.2 ∙ some.4)

pub along_any : (e : Edge) (vs ws : List Vertex) → AreAlong e vs ws → list_any (λ v. is_on e (at v)) ws ≡ list_any (λ v. is_on e (at v)) vs
along_any e vs ws h = same _ _ (any_of e ws vs (λ v one on. All-contains (Contains vs) ws v h.own one)) (any_of e vs ws h.kept)
  where
    same : (s t : Bool) → (s ≡ true → t ≡ true) → (t ≡ true → s ≡ true) → s ≡ t
    same true t f g = sym (f refl)
    same false true f g = g refl
    same false false f g = refl

-- the same of vertices in any order
pub along_same : (e : Edge) (vs ordered ws : List Vertex) → AreInOrder vs ordered → AreAlong e ordered ws → AreAlong e vs ws
along_same e vs ordered ws is h = record {
  own = λ k d lt. Contains-permutation ordered vs (get_or ws k d) (IsPermutation-sym vs ordered is.same) (h.own k d lt);
  kept = λ v one on. h.kept v (Contains-permutation vs ordered v is.same one) on;
}

pub along_all : (e : Edge) (vs : List Vertex) → AreAlong e vs vs
along_all e vs = record { own = All-contains_itself vs; kept = λ v one on. one }

pub any_same : (vs ordered : List Vertex) (e : Edge) (b : Bool) → AreInOrder vs ordered → b ≡ list_any (λ v. is_on e (at v)) ordered → b ≡ list_any (λ v. is_on e (at v)) vs
any_same vs ordered e b h is = is ∙ sym (list_any-IsPermutation (λ v. is_on e (at v)) vs ordered h.same)
