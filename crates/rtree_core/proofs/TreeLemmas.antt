-- The invariants of a lawful tree, and how large it can be.
use Rattle.std.proofs.Common.{arith, ◌≡◌, ◌≢◌, ℕ, zero, suc, ◌+◌, ◌^◌, ◌<◌, ◌≤◌, pow_mono, pow-suc, true, cond, List, [], ◌∷◌, length, refl, sym, ◌∙◌, subst}
use Rattle.std.proofs.Common.{inl, inr}
use Rattle.std.specs.Prelude.{All, Option, None, Some, IfSome, count_by, sum_by, nat_eq, nat_lt}
use Rattle.std.proofs.lemmas.Bool.{cases_lt, cases_eq}
use Rattle.std.proofs.lemmas.Bool.Decides.{nat_tests}
use Rattle.std.proofs.lemmas.List.Concat.{length-flat_map}
use Rattle.std.proofs.lemmas.List.Elements.{All-head, All-tail}
use Rattle.std.proofs.lemmas.List.Sums.{sum_by-cons}
use Rattle.rtree_core.specs.declared.node.Entry.{Entry}
use Rattle.rtree_core.specs.declared.node.Node.{Node}
use Rattle.split_core.specs.Collections.{HasSame, Gains}
use Rattle.rtree_core.specs.Nodes.{entries_of, level_of, size_of, children_of, IsLawfulAt}
use Rattle.rtree_core.specs.Trees.{entries_in, height_of, has_number, IsFresh, IsRoot, IsTree}
use Rattle.rtree_core.proofs.NodeLemmas.{HasChildren, has_children, has_entries}

-- every item passes the test that all pass
pub count_all : {T : Type 0} (xs : List T) → count_by (λ _. true) xs ≡ length xs
count_all [] = refl
count_all (x ∷ xs) = omega (arith, sum_by-cons (λ _. 1) x xs, count_all xs)

-- collections that are the same have the same length
pub same_length : {T : Type 0} (xs ys : List T) → HasSame xs ys → length xs ≡ length ys
same_length xs ys h = sym (count_all xs) ∙ h (λ _. true) ∙ count_all ys

below_suc : (a n : ℕ) → cond {A = ℕ} (nat_lt a (suc n)) 1 0 ≡ cond {A = ℕ} (nat_lt a n) 1 0 + cond {A = ℕ} (nat_eq a n) 1 0
below_suc a n = grind (arith, nat_tests)

count_suc : (n : ℕ) (xs : List Entry) → count_by (λ e. nat_lt e.number (suc n)) xs ≡ count_by (λ e. nat_lt e.number n) xs + count_by (has_number n) xs
count_suc n [] = refl
count_suc n (x ∷ xs) =
    omega (
      arith,
      count_suc n xs,
      below_suc x.number n,
      sum_by-cons (λ e. cond {A = ℕ} (nat_lt e.number (suc n)) 1 0) x xs,
      sum_by-cons (λ e. cond {A = ℕ} (nat_lt e.number n) 1 0) x xs,
      sum_by-cons (λ e. cond {A = ℕ} (has_number n e) 1 0) x xs,
    )

is_none_below : (a : ℕ) → cond {A = ℕ} (nat_lt a 0) 1 0 ≡ 0
is_none_below a = grind (arith, nat_tests)

count_none : (xs : List Entry) → count_by (λ e. nat_lt e.number 0) xs ≡ 0
count_none [] = refl
count_none (x ∷ xs) = omega (arith, count_none xs, is_none_below x.number, sum_by-cons (λ e. cond {A = ℕ} (nat_lt e.number 0) 1 0) x xs)

-- how many distinct numbers are less than n
pub count_below_n : (n : ℕ) (xs : List Entry) → ((k : ℕ) → count_by (has_number k) xs ≤ 1) → count_by (λ e. nat_lt e.number n) xs ≤ n
count_below_n zero xs h = omega (arith, count_none xs)
count_below_n (suc n) xs h = omega (arith, count_suc n xs, count_below_n n xs h, h n)

itself : (k : ℕ) → cond {A = ℕ} (nat_eq k k) 1 0 ≡ 1
itself k = grind (arith, nat_tests)

is_below : (a n : ℕ) → a < n → cond {A = ℕ} (nat_lt a n) 1 0 ≡ 1
is_below a n h = grind (arith, nat_tests)

-- all are less than n if none is n or more
pub all_below : (n : ℕ) (xs : List Entry) → ((k : ℕ) → n ≤ k → count_by (has_number k) xs ≡ 0) → count_by (λ e. nat_lt e.number n) xs ≡ length xs
all_below n [] h = refl
all_below n (x ∷ xs) h =
    let here : x.number < n = elim (cases_lt x.number n) [
      | inl p ↦ p
      | inr p ↦ absurd (omega (arith, h x.number p, itself x.number, sum_by-cons (λ e. cond {A = ℕ} (has_number x.number e) 1 0) x xs))
    ] in
    omega (
      arith,
      all_below n xs (λ k p. omega (arith, h k p, sum_by-cons (λ e. cond {A = ℕ} (has_number k e) 1 0) x xs)),
      is_below x.number n here,
      sum_by-cons (λ e. cond {A = ℕ} (nat_lt e.number n) 1 0) x xs,
    )

-- a tree has no more entries than there are numbers
pub tree_length : (root : Option Node) → IsTree root → length (entries_in root) ≤ 2 ^ 32
tree_length root h = omega (arith, all_below (2 ^ 32) (entries_in root) h.in_range, count_below_n (2 ^ 32) (entries_in root) h.distinct)

two_children : (m : ℕ) (f : Node → ℕ) (xs : List Node) → 2 ≤ length xs → All (λ n. m ≤ f n) xs → m + m ≤ sum_by f xs
two_children m f [] s h = absurd (omega arith)
two_children m f (x ∷ []) s h = absurd (omega arith)
two_children m f (x ∷ y ∷ zs) s h =
    let first = All-head (λ n. m ≤ f n) x (y ∷ zs) h in
    let second = All-head (λ n. m ≤ f n) y zs (All-tail (λ n. m ≤ f n) x (y ∷ zs) h) in
    omega (arith, first, second, sum_by-cons f x (y ∷ zs), sum_by-cons f y zs)

inner_deep : (l : ℕ) (n : Node) →
    HasChildren l n →
    ((m : Node) → IsLawfulAt l m → 2 ≤ size_of m → 2 ^ (l + 1) ≤ length (entries_of m)) →
    2 ≤ size_of n →
    2 ^ (l + 1) + 2 ^ (l + 1) ≤ length (entries_of n)
inner_deep l n h deep two =
    let all : All (λ m. 2 ^ (l + 1) ≤ length (entries_of m)) (children_of n) = λ k d lt. deep _ (h.children k d lt) (omega (arith, h.enough k d lt)) in
    rw (h.entries, length-flat_map) (two_children (2 ^ (l + 1)) (λ m. length (entries_of m)) (children_of n) (omega (arith, h.size)) all)

twice : (l : ℕ) → 2 ^ (suc l + 1) ≡ 2 ^ (l + 1) + 2 ^ (l + 1)
twice l =
    let one_more : suc l + 1 ≡ suc (l + 1) = omega arith in
    rw one_more (omega (arith, pow-suc 2 (l + 1)))

-- each level of a node of two at least doubles its entries
entries_deep : (l : ℕ) (n : Node) → IsLawfulAt l n → 2 ≤ size_of n → 2 ^ (l + 1) ≤ length (entries_of n)
entries_deep zero n h two = omega (arith, (has_entries n h).size)
entries_deep (suc l) n h two = omega (arith, twice l, inner_deep l n (has_children l n h) (entries_deep l) two)

level_below : (l : ℕ) (n : Node) → level_of n ≡ l → IsLawfulAt l n → (0 < level_of n → 2 ≤ size_of n) → length (entries_of n) ≤ 2 ^ 32 → level_of n < 32
level_below zero n e h two small = omega arith
level_below (suc l) n e h two small =
    elim (cases_lt l 31) [
      | inl p ↦ omega arith
      | inr p ↦ absurd (omega (arith, inner_deep l n (has_children l n h) (entries_deep l) (two (omega arith)), pow_mono {i = 32} {j = l + 1} (omega arith)))
    ]

-- a tree has at most 32 levels, since numbers have 32 bits
pub tree_height : (root : Option Node) → IsTree root → height_of root ≤ 32
tree_height None h = omega arith
tree_height (Some n) h = omega (arith, level_below (level_of n) n refl h.lawful.lawful h.lawful.two (tree_length (Some n) h))

pub not_that : (x : Entry) (k : ℕ) → x.number ≢ k → cond {A = ℕ} (has_number k x) 1 0 ≡ 0
not_that x k h = grind (arith, nat_tests)

pub at_most_one : (x : Entry) (k : ℕ) → cond {A = ℕ} (has_number k x) 1 0 ≤ 1
at_most_one x k = grind (arith, nat_tests)

-- an entry whose number is fresh leaves the tree lawful
pub tree_gains : (x : Entry) (old new : Option Node) →
    x.number < 2 ^ 32 →
    IsFresh x.number old →
    IsTree old →
    Gains x (entries_in old) (entries_in new) →
    IfSome new IsRoot →
    IsTree new
tree_gains x old new small fresh tree gains lawful = record {
  lawful = lawful;
  distinct = λ k. elim (cases_eq x.number k) [
    | inl e ↦ omega (
      arith,
      subst (λ z. count_by (has_number z) (entries_in old) ≡ 0) e fresh,
      gains (has_number k),
      sum_by-cons
          (λ y. cond {A = ℕ} (has_number k y) 1 0) x (entries_in old),
      at_most_one x k,
    )
    | inr n ↦ omega (arith, tree.distinct k, gains (has_number k), sum_by-cons (λ y. cond {A = ℕ} (has_number k y) 1 0) x (entries_in old), not_that x k n)
  ];
  in_range = λ k h. omega (
    arith,
    tree.in_range k h,
    gains (has_number k),
    sum_by-cons (λ y. cond {A = ℕ} (has_number k y) 1 0) x
        (entries_in old),
    not_that x k (λ e. omega arith),
  );
}

-- a tree without one of its entries is lawful if its root is
pub tree_loses : (x : Entry) (old new : Option Node) → IsTree old → Gains x (entries_in new) (entries_in old) → IfSome new IsRoot → IsTree new
tree_loses x old new tree loses lawful = record {
  lawful = lawful;
  distinct = λ k. omega (arith, tree.distinct k, loses (has_number k), sum_by-cons (λ y. cond {A = ℕ} (has_number k y) 1 0) x (entries_in new));
  in_range = λ k h. omega (arith, tree.in_range k h, loses (has_number k), sum_by-cons (λ y. cond {A = ℕ} (has_number k y) 1 0) x (entries_in new));
}

-- the same of a tree whose root was this one
pub tree_loses_of : (x : Entry) (root old new : Option Node) → old ≡ root → IsTree root → Gains x (entries_in new) (entries_in old) → IfSome new IsRoot → IsTree new
tree_loses_of x root old new is tree loses lawful = tree_loses x root new tree (rw is at loses) lawful

pub loses_length : (x : Entry) (root old new : Option Node) → old ≡ root → Gains x (entries_in new) (entries_in old) → length (entries_in new) + 1 ≡ length (entries_in root)
loses_length x root old new is loses = omega (arith, same_length (x ∷ entries_in new) (entries_in root) (rw is at loses))
