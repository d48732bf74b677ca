-- The first item of a heap is no later than the others: of candidates, and of measured features.
use Rattle.std.proofs.Math.Nat.{mul-le-mul_right}
use Rattle.std.proofs.Common.{Contains, length, get_or, refl, sym, ap, subst, ◌≡◌, ◌↔◌, ℕ, Bool, IsTrue, ◌*◌, ◌<◌, ◌≤◌, ◌⊎◌, List, [], ◌∷◌, false, arith, map, All, inl, inr}
use Rattle.std.specs.Ordering.{is_lt, nat_cmp, ordering_then}
use Rattle.std.specs.declared.cmp.Ordering.{Ordering}
use Rattle.std.specs.declared.cmp.Ordering.TheVariants.{Less, Equal}
use Rattle.std.proofs.lemmas.Bool.{cases_lt}
use Rattle.std.specs.declared.cmp.Reverse.{Reverse}
use Rattle.std.specs.List.{AllByRecursion}
use Rattle.std.specs.BinaryHeap.{IsHeap, IsUpperBound}
use Rattle.std.specs.Cmp.{nat_cmp_is}
use Rattle.std.specs.Prelude.{IsPermutation}
use Rattle.std.proofs.lemmas.List.Sorted.{All-permutation, IsPermutation-map, IsPermutation-sym}
use Rattle.std.proofs.lemmas.List.Elements.{All-nil, All-cons, All-contains, All-map, All-weaker}
use Rattle.std.proofs.lemmas.Map.Keys.{ge_from_not_lt}
use Rattle.nearest_core.specs.declared.candidate.Item.{Item}
use Rattle.nearest_core.specs.declared.candidate.Item.TheVariants.{Subtree, Feature}
use Rattle.nearest_core.specs.declared.candidate.Candidate.{Candidate}
use Rattle.nearest_core.specs.contracts.candidate.CandidateOrd.TheImpl as order
use Rattle.nearest_core.specs.contracts.candidate.ItemOrd.TheImpl as item_order
use Rattle.nearest_core.specs.declared.neighbour.Neighbour.{Neighbour}
use Rattle.nearest_core.specs.Candidates.{IsItemNoLater, IsNoLater}
use Rattle.nearest_core.specs.Orders.{neighbour_order, IsNoLater as IsNoLaterNeighbour}
use Rattle.nearest_core.specs.Queues.{nearest_last}
use Rattle.nearest_core.specs.Steps.{IsFirstCandidate, IsFirstMeasured}
use Rattle.planar_core.specs.Squares.{IsLess, IsNoMore}
use Rattle.planar_core.proofs.FractionLemmas.{equal_no_more, no_more_chain}
use Rattle.nearest_core.proofs.NearLemmas.{as_no_more, less_or_no_more}

item_no_later : (i j : Item) → is_lt ((item_order.ghosts).cmp j i) ≡ false → IsItemNoLater i j
item_no_later (Subtree n) j h = tt
item_no_later (Feature k) (Subtree n) h = absurd cc
item_no_later (Feature k) (Feature l) h = ge_from_not_lt l k h

then_cases : (m n : ℕ) (r : Ordering) → is_lt (ordering_then (nat_cmp m n) r) ≡ false → (n < m) ⊎ ((n ≡ m) × (is_lt r ≡ false))
then_cases m n r h = elim (cases_lt m n) [
  | inl less ↦ let e : Less ≡ nat_cmp m n = nat_cmp_is m n Less less in let k = rw (← e) at h in absurd cc
  | inr most ↦ elim (cases_lt n m) [
    | inl more ↦ inl more
    | inr neither ↦ let same : m ≡ n = omega arith in let e : Equal ≡ nat_cmp m n = nat_cmp_is m n Equal same in inr (omega arith, rw (← e) at h)
  ]
]

pub no_later : (c d : Candidate) → is_lt ((order.ghosts).cmp d c) ≡ false → IsNoLater c d
no_later c d h = elim (then_cases d.square c.square ((item_order.ghosts).cmp d.item c.item) h) [
  | inl less ↦ inl less
  | inr same ↦ inr (same.0, item_no_later c.item d.item same.1)
]

-- the candidates of a heap
abbrev held : List (Reverse Candidate) → List Candidate
held cs = map (λ c. c.0) cs

all_no_later : (c : Reverse Candidate) (ds : List (Reverse Candidate))
    → AllByRecursion (λ d. is_lt ((order.ghosts).cmp d.0 c.0) ≡ false) ds → All (IsNoLater c.0) (held ds)
all_no_later c [] h = All-nil (IsNoLater c.0)
all_no_later c (d ∷ ds) h = All-cons (IsNoLater c.0) d.0 (held ds) (no_later c.0 d.0 h.0) (all_no_later c ds h.1)

pub heap_pushed : (c : Candidate) (old new : List (Reverse Candidate)) → IsPermutation ((record { 0 = c }) ∷ old) new
    → IsPermutation (c ∷ held old) (held new)
heap_pushed c old new h = IsPermutation-map (λ d. d.0) ((record { 0 = c }) ∷ old) new h

pub heap_popped : (c : Reverse Candidate) (old new : List (Reverse Candidate)) → IsPermutation old (c ∷ new)
    → IsPermutation (held old) (c.0 ∷ held new)
heap_popped c old new h = IsPermutation-map (λ d. d.0) old (c ∷ new) h

pub heap_first : (c : Reverse Candidate) (old new : List (Reverse Candidate))
    → IsHeap (λ a b. (order.ghosts).cmp b.0 a.0) old
    → (IsHeap (λ a b. (order.ghosts).cmp b.0 a.0) old → IsUpperBound (λ a b. (order.ghosts).cmp b.0 a.0) c new)
    → All (IsNoLater c.0) (held new)
heap_first c old new heap bound = all_no_later c new (bound heap)

no_greater : (c d : Candidate) → IsNoLater c d → c.square ≤ d.square
no_greater c d h = elim h [ inl less ↦ omega (arith, less) | inr same ↦ omega (arith, same.0) ]

-- the squared distance of the first candidate is the least
first_squares : (c : Reverse Candidate) (ds : List (Reverse Candidate))
    → AllByRecursion (λ d. is_lt ((order.ghosts).cmp d.0 c.0) ≡ false) ds → All (λ d. c.0.square ≤ d.square) (held ds)
first_squares c [] h = All-nil (λ d. c.0.square ≤ d.square)
first_squares c (d ∷ ds) h = All-cons (λ e. c.0.square ≤ e.square) d.0 (held ds) (no_greater c.0 d.0 (no_later c.0 d.0 h.0)) (first_squares c ds h.1)

pub heap_least : (c : Reverse Candidate) (ds : List (Reverse Candidate)) → IsHeap (λ a b. (order.ghosts).cmp b.0 a.0) ds
    → (IsHeap (λ a b. (order.ghosts).cmp b.0 a.0) ds → IsUpperBound (λ a b. (order.ghosts).cmp b.0 a.0) c ds) → All (λ d. c.0.square ≤ d.square) (held ds)
heap_least c ds heap bound = first_squares c ds (bound heap)

-- and it is that of a candidate
pub first_held : (ds : List (Reverse Candidate)) (c : Reverse Candidate) → 0 < length ds → c ≡ get_or ds 0 c → Contains (map (λ d. d.square) (held ds)) c.0.square
first_held [] c some at = absurd (omega (arith, some))
first_held (d ∷ ds) c some at = (0, omega arith, ap (λ (e : Reverse Candidate). e.0.square) (sym at))

-- a heap of measured features
module _ {S : Type 0} (fraction : S → ℕ × ℕ) where
  not_less_cases : (a b c d : ℕ) → is_lt (ordering_then (nat_cmp a b) (nat_cmp c d)) ≡ false → (b < a) ⊎ ((b ≡ a) × (d ≤ c))
  not_less_cases a b c d h = elim (then_cases a b (nat_cmp c d) h) [
    | inl less ↦ inl less
    | inr same ↦ inr (same.0, ge_from_not_lt c d same.1)
  ]

  neighbour_no_later : (m n : Neighbour S) → is_lt (neighbour_order fraction n m) ≡ false → IsNoLaterNeighbour fraction m n
  neighbour_no_later m n h =
      not_less_cases ((fraction n.square).0 * (fraction m.square).1) ((fraction m.square).0 * (fraction n.square).1) n.number m.number h

  all_no_later_neighbours : (m : Reverse (Neighbour S)) (ns : List (Reverse (Neighbour S)))
      → AllByRecursion (λ n. is_lt (neighbour_order fraction n.0 m.0) ≡ false) ns → All (IsNoLaterNeighbour fraction m.0) (map (λ n. n.0) ns)
  all_no_later_neighbours m [] h = All-nil (IsNoLaterNeighbour fraction m.0)
  all_no_later_neighbours m (n ∷ ns) h =
      All-cons (IsNoLaterNeighbour fraction m.0) n.0 (map (λ n. n.0) ns) (neighbour_no_later m.0 n.0 h.0) (all_no_later_neighbours m ns h.1)

  pub measured_first : (m : Reverse (Neighbour S)) (old new : List (Reverse (Neighbour S))) → IsHeap (nearest_last fraction) old
      → (IsHeap (nearest_last fraction) old → IsUpperBound (nearest_last fraction) m new) → All (IsNoLaterNeighbour fraction m.0) (map (λ n. n.0) new)
  measured_first m old new heap bound = all_no_later_neighbours m new (bound heap)

  pub measured_moved : (xs ys : List (Reverse (Neighbour S))) → IsPermutation xs ys → IsPermutation (map (λ n. n.0) xs) (map (λ n. n.0) ys)
  measured_moved xs ys h = IsPermutation-map (λ (n : Reverse (Neighbour S)). n.0) xs ys h

  -- those of a heap whose first isn't below a square aren't either
  module _ (positive : (s : S) → 0 < (fraction s).1) (m : Reverse (Neighbour S)) (square : ℕ) (from : IsNoMore (square, 1) (fraction m.0.square)) where
    none_below : (ns : List (Reverse (Neighbour S))) → AllByRecursion (λ n. is_lt (neighbour_order fraction n.0 m.0) ≡ false) ns
        → All (λ n. IsNoMore (square, 1) (fraction n.square)) (map (λ n. n.0) ns)
    none_below [] h = All-nil (λ n. IsNoMore (square, 1) (fraction n.square))
    none_below (n ∷ ns) h =
        All-cons (λ x. IsNoMore (square, 1) (fraction x.square)) n.0 (map (λ x. x.0) ns)
        (no_more_chain (square, 1) (fraction m.0.square) (fraction n.0.square) (positive m.0.square) from
        (in_order m.0 n.0 (neighbour_no_later m.0 n.0 h.0))) (none_below ns h.1)
      where
        in_order : (a b : Neighbour S) → IsNoLaterNeighbour fraction a b → IsNoMore (fraction a.square) (fraction b.square)
        in_order a b (inl less) = as_no_more (fraction a.square) (fraction b.square) less
        in_order a b (inr same) = equal_no_more (fraction a.square) (fraction b.square) same.0

  pub first_not_below : (positive : (s : S) → 0 < (fraction s).1) (m : Reverse (Neighbour S)) (ns : List (Reverse (Neighbour S))) (square : ℕ) (below : Bool)
      → IsHeap (nearest_last fraction) ns → (IsHeap (nearest_last fraction) ns → IsUpperBound (nearest_last fraction) m ns)
      → IsTrue below ↔ IsLess (fraction m.0.square) (square, 1) → below ≡ false → All (λ n. IsNoMore (square, 1) (fraction n.square)) (map (λ n. n.0) ns)
  first_not_below positive m ns square below heap bound is false_is =
      none_below positive m square (elim (less_or_no_more (fraction m.0.square) (square, 1)) [
        | inl less ↦ absurd (let yes = is.1 less in cc)
        | inr most ↦ most
      ]) ns (bound heap)

  less_later : (f : ℕ × ℕ) (m n : ℕ) → m ≤ n → IsLess f (m, 1) → IsLess f (n, 1)
  less_later f m n le less = plain (f.0 * 1) m n f.1 le less
    where
      plain : (a m n d : ℕ) → m ≤ n → a < m * d → a < n * d
      plain a m n d le less = let more = mul-le-mul_right {m = m} {n = n} d le in omega (arith, less, more)

  no_more_earlier : (f : ℕ × ℕ) (m n : ℕ) → m ≤ n → IsNoMore (n, 1) f → IsNoMore (m, 1) f
  no_more_earlier f m n le most = plain f.1 m n (f.0 * 1) le most
    where
      plain : (d m n a : ℕ) → m ≤ n → n * d ≤ a → m * d ≤ a
      plain d m n a le most = let more = mul-le-mul_right {m = m} {n = n} d le in omega (arith, most, more)

  -- a measured feature comes next
  pub measured_next : (queue : List Candidate) (m : Reverse (Neighbour S)) (old new : List (Reverse (Neighbour S))) → IsHeap (nearest_last fraction) old
      → IsPermutation old (m ∷ new) → (IsHeap (nearest_last fraction) old → IsUpperBound (nearest_last fraction) m new)
      → All (λ d. IsLess (fraction m.0.square) (d.square, 1)) queue
      → IsFirstMeasured fraction queue (map (λ n. n.0) old) queue (map (λ n. n.0) new) m.0
  measured_next queue m old new heap others bound nearer = record {
    others = measured_moved old (m ∷ new) others;
    first = measured_first m old new heap bound;
    same = refl;
    nearer = nearer;
  }

  -- where it is nearer than the least square of a candidate
  pub below_all : (queue : List Candidate) (square : ℕ) (m : Reverse (Neighbour S)) (ns : List (Reverse (Neighbour S))) → m ≡ get_or ns 0 m
      → ((d : Reverse (Neighbour S)) → IsLess (fraction (get_or ns 0 d).0.square) (square, 1)) → All (λ d. square ≤ d.square) queue
      → All (λ d. IsLess (fraction m.0.square) (d.square, 1)) queue
  below_all queue square m ns at less least =
      All-weaker (λ d. square ≤ d.square) (λ d. IsLess (fraction m.0.square) (d.square, 1))
      (λ d le. less_later (fraction m.0.square) square d.square le
      (subst (λ (x : Reverse (Neighbour S)). IsLess (fraction x.0.square) (square, 1)) (sym at) (less m))) queue least

  -- a candidate comes next
  pub candidate_next : (queue rest : List Candidate) (c : Candidate) (square : ℕ) (ns : List (Neighbour S)) → IsPermutation queue (c ∷ rest) → All (IsNoLater c) rest
      → Contains (map (λ d. d.square) queue) square → All (λ n. IsNoMore (square, 1) (fraction n.square)) ns
      → IsFirstCandidate fraction queue ns rest ns c
  candidate_next queue rest c square ns others first contains later = record {
    others = others;
    first = first;
    same = refl;
    later = All-weaker (λ n. IsNoMore (square, 1) (fraction n.square)) (λ n. IsNoMore (c.square, 1) (fraction n.square))
        (λ n most. no_more_earlier (fraction n.square) c.square square least most) ns later;
  }
    where
      itself : c.square ≤ c.square
      itself = omega arith

      least : c.square ≤ square
      least = All-contains (λ n. c.square ≤ n) (map (λ d. d.square) queue) square
          (All-map (λ n. c.square ≤ n) (λ d. d.square) queue
          (All-permutation (λ d. c.square ≤ d.square) (c ∷ rest) queue (IsPermutation-sym queue (c ∷ rest) others)
          (All-cons (λ d. c.square ≤ d.square) c rest itself (All-weaker (IsNoLater c) (λ d. c.square ≤ d.square) (λ d h. no_greater c d h) rest first)))) contains

  -- no candidate is left
  pub none_waits : (queue : List Candidate) (m : Reverse (Neighbour S)) → queue ≡ [] → All (λ d. IsLess (fraction m.0.square) (d.square, 1)) queue
  none_waits queue m none = subst (All (λ d. IsLess (fraction m.0.square) (d.square, 1))) (sym none) (All-nil (λ d. IsLess (fraction m.0.square) (d.square, 1)))
