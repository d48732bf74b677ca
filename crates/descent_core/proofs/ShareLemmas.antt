-- The tasks of a plan divide the entries of two trees.
use Rattle.std.proofs.Common.{arith, ◌≡◌, ℕ, zero, suc, ◌*◌, ◌≤◌, cond, List, [], ◌∷◌, get_or, map, refl, sym, ap, subst, inl, inr}
use Rattle.std.specs.Prelude.{◌⊎◌, All, Contains, count_by}
use Rattle.std.specs.List.{flat_map, sum_by}
use Rattle.std.proofs.Math.Nat.{add-mul, mul-add}
use Rattle.std.proofs.lemmas.List.Elements.{All-nil, All-cons, All-head, All-tail, All-weaker, All-contains, All-contains_itself, Contains-append_left}
use Rattle.std.proofs.lemmas.List.Elements.{Contains-append_right, Contains-append_cases}
use Rattle.std.proofs.lemmas.List.Sums.{sum_by-cons, sum_by-append, get_or-le-sum_by}
use Rattle.geom_core.specs.Cells.{Meets, IsIn}
use Rattle.rtree_core.specs.declared.node.Entry.{Entry}
use Rattle.rtree_core.specs.declared.node.Node.{Node}
use Rattle.rtree_core.specs.Nodes.{entries_of, node_cover}
use Rattle.rtree_core.specs.Trees.{has_number}
use Rattle.rtree_core.proofs.WindowLemmas.{all_joined}
use Rattle.descent_core.specs.Lists.{IsKept, none, kept, left_out, pairs}
use Rattle.descent_core.specs.Depths.{lower, lower_pairs, at_depth}
use Rattle.descent_core.specs.Plans.{CoversMeet}
use Rattle.descent_core.specs.Shares.{HoldsBoth}
use Rattle.descent_core.proofs.FindLemmas.{contains_none, contains_one, contains_here, entries_in_cover}
use Rattle.descent_core.proofs.DepthLemmas.{AreLawful, lower_step, pairs_all, lower_lawful, depth_lawful}
use Rattle.descent_core.proofs.KeptLemmas.{kept_too}

-- membership in lists of several kinds
pub contains_cases : {T : Type 0} (x : T) (xs : List T) (y : T) → Contains (x ∷ xs) y → (x ≡ y) ⊎ Contains xs y
contains_cases x xs y c = elim (Contains-append_cases (x ∷ []) xs y c) [
  | inl h ↦ inl (contains_one x y h)
  | inr h ↦ inr h
]

pub contains_later : {T : Type 0} (x : T) (xs : List T) (y : T) → Contains xs y → Contains (x ∷ xs) y
contains_later x xs y c = Contains-append_right (x ∷ []) xs y c

pub contains_joined : {A B : Type 0} (g : A → List B) (xs : List A) (x : A) (y : B) → Contains xs x → Contains (g x) y → Contains (flat_map g xs) y
contains_joined g [] x y c d = absurd (contains_none x c)
contains_joined g (z ∷ xs) x y c d =
    elim (contains_cases z xs x c) [
      | inl same ↦ Contains-append_left (g z) (flat_map g xs) y (subst (λ w. Contains (g w) y) (sym same) d)
      | inr later ↦ Contains-append_right (g z) (flat_map g xs) y (contains_joined g xs x y later d)
    ]

pub joined_contains : {A B : Type 0} (g : A → List B) (xs : List A) (y : B) → Contains (flat_map g xs) y → (x : A) × Contains xs x × Contains (g x) y
joined_contains g [] y c = absurd (contains_none y c)
joined_contains g (z ∷ xs) y c =
    elim (Contains-append_cases (g z) (flat_map g xs) y c) [
      | inl here ↦ (z, contains_here z xs, here)
      | inr there ↦ let rest = joined_contains g xs y there in (rest.0, contains_later z xs rest.0 rest.1, rest.2)
    ]

contains_map : {A B : Type 0} (f : A → B) (xs : List A) (x : A) → Contains xs x → Contains (map f xs) (f x)
contains_map f [] x c = absurd (contains_none x c)
contains_map f (z ∷ xs) x c =
    elim (contains_cases z xs x c) [
      | inl same ↦ subst (λ w. Contains (f z ∷ map f xs) w) (ap f same) (contains_here (f z) (map f xs))
      | inr later ↦ contains_later (f z) (map f xs) (f x) (contains_map f xs x later)
    ]

pub kept_contains : {T : Type 0} (P : T → Type 0) {xs ys : List T} (x : T) → IsKept P xs ys → Contains xs x → P x → Contains ys x
kept_contains P x none c p = absurd (contains_none x c)
kept_contains P x (kept {x = z} {xs} {ys} h k) c p =
    elim (contains_cases z xs x c) [
      | inl same ↦ subst (Contains (z ∷ ys)) same (contains_here z ys)
      | inr later ↦ contains_later z ys x (kept_contains P x k later p)
    ]
kept_contains P x (left_out {x = z} {xs} {ys} h k) c p =
    elim (contains_cases z xs x c) [
      | inl same ↦ absurd (h (subst P (sym same) p))
      | inr later ↦ kept_contains P x k later p
    ]

-- sums over lists joined, paired and kept
pub sum_joined : {A B : Type 0} (f : B → ℕ) (g : A → List B) (xs : List A) → sum_by f (flat_map g xs) ≡ sum_by (λ x. sum_by f (g x)) xs
sum_joined f g [] = refl
sum_joined f g (x ∷ xs) =
    omega (arith, sum_by-append f (g x) (flat_map g xs), sum_joined f g xs, sum_by-cons (λ y. sum_by f (g y)) x xs)

sum_beside : {A B : Type 0} (a : A → ℕ) (b : B → ℕ) (x : A) (ys : List B) → sum_by (λ (p : A × B). a p.0 * b p.1) (map (λ y. (x, y)) ys) ≡ a x * sum_by b ys
sum_beside a b x [] = omega arith
sum_beside {A} {B} a b x (y ∷ ys) =
    omega (
      arith,
      sum_by-cons (λ (p : A × B). a p.0 * b p.1) (x, y) (map (λ z. (x, z)) ys),
      sum_beside a b x ys,
      ap (λ n. a x * n) (sum_by-cons b y ys),
      mul-add (a x) (b y) (sum_by b ys),
    )

sum_pairs : {A B : Type 0} (a : A → ℕ) (b : B → ℕ) (xs : List A) (ys : List B) → sum_by (λ (p : A × B). a p.0 * b p.1) (pairs xs ys) ≡ sum_by a xs * sum_by b ys
sum_pairs a b [] ys = omega arith
sum_pairs {A} {B} a b (x ∷ xs) ys =
    omega (
      arith,
      sum_by-append (λ (p : A × B). a p.0 * b p.1) (map (λ y. (x, y)) ys) (pairs xs ys),
      sum_beside a b x ys,
      sum_pairs a b xs ys,
      ap (λ n. n * sum_by b ys) (sum_by-cons a x xs),
      add-mul (a x) (sum_by a xs) (sum_by b ys),
    )

sum_kept : {T : Type 0} (P : T → Type 0) (f : T → ℕ) {xs ys : List T} → IsKept P xs ys → sum_by f ys ≤ sum_by f xs
sum_kept P f none = omega arith
sum_kept P f (kept {x} {xs} {ys} h k) = omega (arith, sum_by-cons f x xs, sum_by-cons f x ys, sum_kept P f k)
sum_kept P f (left_out {x} {xs} {ys} h k) = omega (arith, sum_by-cons f x xs, sum_kept P f k)

pub sum_at_most : {T : Type 0} (f g : T → ℕ) (xs : List T) → All (λ x. f x ≤ g x) xs → sum_by f xs ≤ sum_by g xs
sum_at_most f g [] h = omega arith
sum_at_most f g (x ∷ xs) h =
    omega (arith, sum_by-cons f x xs, sum_by-cons g x xs, All-head (λ y. f y ≤ g y) x xs h, sum_at_most f g xs (All-tail (λ y. f y ≤ g y) x xs h))

-- a list of entries is a part of another
pub record IsPart (es part : List Entry) : Type 0 where
  pub held : All (Contains es) part
  pub counted : (k : ℕ) → count_by (has_number k) part ≤ count_by (has_number k) es

part_itself : (es : List Entry) → IsPart es es
part_itself es = record { held = All-contains_itself es; counted = λ k. omega arith }

part_of_part : (es fs gs : List Entry) → IsPart es fs → IsPart fs gs → IsPart es gs
part_of_part es fs gs a b = record {
  held = All-weaker (Contains fs) (Contains es) (λ g c. All-contains (Contains es) fs g a.held c) gs b.held;
  counted = λ k. omega (arith, a.counted k, b.counted k);
}

part_joined : (xs : List Node) (x : Node) → Contains xs x → IsPart (flat_map entries_of xs) (entries_of x)
part_joined xs x c = record {
  held = All-weaker (Contains (entries_of x)) (Contains (flat_map entries_of xs)) (λ e d. contains_joined entries_of xs x e c d) (entries_of x)
      (All-contains_itself (entries_of x));
  counted = λ k.
      let f : Entry → ℕ = λ e. cond {A = ℕ} (has_number k e) 1 0 in
      let g : Node → ℕ = λ n. sum_by f (entries_of n) in
      omega (arith, sum_joined f entries_of xs, ap g c.2, get_or-le-sum_by g xs c.0 x c.1);
}

-- how many pairs of entries with these numbers a task holds
abbrev pub weight : ℕ → ℕ → Node × Node → ℕ
weight i j t = count_by (has_number i) (entries_of t.0) * count_by (has_number j) (entries_of t.1)

-- tasks that split two lists of entries: each two entries are in one of them, and no pair comes more often than it is there
pub record Splits (es fs : List Entry) (tasks : List (Node × Node)) : Type 0 where
  pub lefts : All (λ t. IsPart es (entries_of t.0)) tasks
  pub rights : All (λ t. IsPart fs (entries_of t.1)) tasks
  pub every : (e f : Entry) → Contains es e → Contains fs f → (t : Node × Node) × Contains tasks t × HoldsBoth e f t
  pub once : (i j : ℕ) → sum_by (weight i j) tasks ≤ count_by (has_number i) es * count_by (has_number j) fs

splits_one : (p : Node × Node) → Splits (entries_of p.0) (entries_of p.1) (p ∷ [])
splits_one p = record {
  lefts = All-cons (λ t. IsPart (entries_of p.0) (entries_of t.0)) p [] (part_itself (entries_of p.0))
      (All-nil (λ t. IsPart (entries_of p.0) (entries_of t.0)));
  rights = All-cons (λ t. IsPart (entries_of p.1) (entries_of t.1)) p [] (part_itself (entries_of p.1))
      (All-nil (λ t. IsPart (entries_of p.1) (entries_of t.1)));
  every = λ e f c d. (p, contains_here p [], (c, d));
  once = λ i j. omega (arith, sum_by-cons (weight i j) p []);
}

splits_lists : (xs ys : List Node) → Splits (flat_map entries_of xs) (flat_map entries_of ys) (pairs xs ys)
splits_lists xs ys =
    let es = flat_map entries_of xs in
    let fs = flat_map entries_of ys in
    record {
      lefts = pairs_all (Contains xs) (Contains ys) (λ t. IsPart es (entries_of t.0)) xs ys (λ x y c d. part_joined xs x c) (All-contains_itself xs)
          (All-contains_itself ys);
      rights = pairs_all (Contains xs) (Contains ys) (λ t. IsPart fs (entries_of t.1)) xs ys (λ x y c d. part_joined ys y d) (All-contains_itself xs)
          (All-contains_itself ys);
      every = λ e f c d.
          let left = joined_contains entries_of xs e c in
          let right = joined_contains entries_of ys f d in (
            (left.0, right.0),
            contains_joined (λ x. map (λ y. (x, y)) ys) xs left.0 (left.0, right.0) left.1 (contains_map (λ y. (left.0, y)) ys right.0 right.1),
            (left.2, right.2),
          );
      once = λ i j.
          let f : ℕ → Entry → ℕ = λ k e. cond {A = ℕ} (has_number k e) 1 0 in
          let g : ℕ → Node → ℕ = λ k n. sum_by (f k) (entries_of n) in
          rw (sum_joined (f i) entries_of xs, sum_joined (f j) entries_of ys) (omega (arith, sum_pairs (g i) (g j) xs ys));
    }

-- each task gives way to tasks that split it
splits_deeper : (es fs : List Entry) (tasks : List (Node × Node)) (g : Node × Node → List (Node × Node)) → Splits es fs tasks →
    All (λ t. Splits (entries_of t.0) (entries_of t.1) (g t)) tasks → Splits es fs (flat_map g tasks)
splits_deeper es fs tasks g s deeper = record {
  lefts = all_joined (λ t. IsPart es (entries_of t.0)) g tasks
      (λ k d lt. All-weaker (λ t. IsPart (entries_of (get_or tasks k d).0) (entries_of t.0)) (λ t. IsPart es (entries_of t.0))
      (λ t h. part_of_part es (entries_of (get_or tasks k d).0) (entries_of t.0) (s.lefts k d lt) h) (g (get_or tasks k d)) (deeper k d lt).lefts);
  rights = all_joined (λ t. IsPart fs (entries_of t.1)) g tasks
      (λ k d lt. All-weaker (λ t. IsPart (entries_of (get_or tasks k d).1) (entries_of t.1)) (λ t. IsPart fs (entries_of t.1))
      (λ t h. part_of_part fs (entries_of (get_or tasks k d).1) (entries_of t.1) (s.rights k d lt) h) (g (get_or tasks k d)) (deeper k d lt).rights);
  every = λ e f c d.
      let above = s.every e f c d in
      let split = All-contains (λ t. Splits (entries_of t.0) (entries_of t.1) (g t)) tasks above.0 deeper above.1 in
      let below = split.every e f above.2.0 above.2.1 in
      (below.0, contains_joined g tasks above.0 below.0 above.1 below.1, below.2);
  once = λ i j.
      omega (
        arith,
        sum_joined (weight i j) g tasks,
        s.once i j,
        sum_at_most (λ t. sum_by (weight i j) (g t)) (weight i j) tasks (λ k d lt. (deeper k d lt).once i j),
      );
}

splits_lower : (p : Node × Node) → AreLawful p → Splits (entries_of p.0) (entries_of p.1) (lower_pairs p)
splits_lower p h =
    let left = (lower_step p.0 h.0).entries in
    let right = (lower_step p.1 h.1).entries in
    subst (λ es. Splits es (entries_of p.1) (lower_pairs p)) (sym left)
    (subst (λ fs. Splits (flat_map entries_of (lower p.0)) fs (lower_pairs p)) (sym right) (splits_lists (lower p.0) (lower p.1)))

-- the pairs at a depth split the pair above them
pub splits_depth : (d : ℕ) (p : Node × Node) → AreLawful p → Splits (entries_of p.0) (entries_of p.1) (at_depth d p)
splits_depth zero p h = splits_one p
splits_depth (suc d) p h =
    splits_deeper (entries_of p.0) (entries_of p.1) (lower_pairs p) (at_depth d) (splits_lower p h)
    (All-weaker AreLawful (λ t. Splits (entries_of t.0) (entries_of t.1) (at_depth d t)) (λ t k. splits_depth d t k) (lower_pairs p) (lower_lawful p h))

-- the same for the tasks of a plan, which hold each two entries that meet
pub record SharesMet (es fs : List Entry) (tasks : List (Node × Node)) : Type 0 where
  pub lawful : All AreLawful tasks
  pub lefts : All (λ t. IsPart es (entries_of t.0)) tasks
  pub rights : All (λ t. IsPart fs (entries_of t.1)) tasks
  pub every : (e f : Entry) → Contains es e → Contains fs f → Meets e.shape f.shape → (t : Node × Node) × Contains tasks t × HoldsBoth e f t
  pub once : (i j : ℕ) → sum_by (weight i j) tasks ≤ count_by (has_number i) es * count_by (has_number j) fs

pub shares_depth : (d : ℕ) (p : Node × Node) (tasks : List (Node × Node)) → AreLawful p → IsKept CoversMeet (at_depth d p) tasks →
    SharesMet (entries_of p.0) (entries_of p.1) tasks
shares_depth d p tasks h k =
    let split = splits_depth d p h in
    let lawful = depth_lawful d p h in
    record {
      lawful = kept_too CoversMeet AreLawful k lawful;
      lefts = kept_too CoversMeet (λ t. IsPart (entries_of p.0) (entries_of t.0)) k split.lefts;
      rights = kept_too CoversMeet (λ t. IsPart (entries_of p.1) (entries_of t.1)) k split.rights;
      every = λ e f c b m.
          let t = split.every e f c b in
          let both = All-contains AreLawful (at_depth d p) t.0 lawful t.1 in
          let left = All-contains (λ (x : Entry). IsIn x.shape (node_cover t.0.0)) (entries_of t.0.0) e (entries_in_cover t.0.0 both.0) t.2.0 in
          let right = All-contains (λ (x : Entry). IsIn x.shape (node_cover t.0.1)) (entries_of t.0.1) f (entries_in_cover t.0.1 both.1) t.2.1 in
          (t.0, kept_contains CoversMeet t.0 k t.1 (m.0, m.1, left m.0 m.1 m.2, right m.0 m.1 m.3), t.2);
      once = λ i j. omega (arith, split.once i j, sum_kept CoversMeet (weight i j) k);
    }
