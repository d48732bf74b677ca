-- The steps of a split, and the facts that every split preserves.
use Rattle.std.proofs.Common.{arith, ◌≡◌, ◌≢◌, ℕ, ◌+◌, ◌<◌, ◌≤◌, true, false, cond, suc, List, [], ◌∷◌, ◌++◌, length, get_or, take, drop, length-append, inl}
use Rattle.std.proofs.Common.{inr, sym, ◌∙◌, ap, subst}
use Rattle.std.specs.Prelude.{remove, All, sum_by}
use Rattle.std.proofs.lemmas.Bool.{cases_lt}
use Rattle.std.proofs.Math.Seq.{drop-cons}
use Rattle.std.proofs.lemmas.List.{append-nil, take-append-drop}
use Rattle.std.proofs.lemmas.List.Edits.{length-remove, get_or-remove_below}
use Rattle.std.proofs.lemmas.List.Elements.{All-append, All-head, All-take, All-drop, All-push, All-cons, All-nil, All-get_or}
use Rattle.std.proofs.lemmas.List.Sums.{sum_by-append, sum_by_push, sum_by-remove}
use Rattle.geom_core.specs.declared.shape.Shape.{Shape}
use Rattle.geom_core.specs.Shapes.{area_of, cover_of}
use Rattle.split_core.proofs.CoverLemmas.{All-front, All-back, All-last}
use Rattle.split_core.specs.declared.split.Cost.{Cost}
use Rattle.split_core.specs.Limits.{fewest, most}
use Rattle.split_core.specs.Choices.{enlargement}
use Rattle.split_core.specs.Collections.{HasSame}
use Rattle.split_core.specs.Orders.{is_less_cost}
use Rattle.split_core.specs.Splits.{Group, group, costs_less, CanChoose, IsTaken, IsDealt, done, rest_to_one, rest_to_two, to_one, to_two, IsSplit, AreGroups}

-- the cost for a group to include a shape
pub record IsCost {T : Type 0} (cost : Cost) (group : Group T) (s : Shape) : Type 0 where
  pub enlargement : cost.need.enlargement ≡ enlargement group.cover s
  pub area : cost.need.area ≡ area_of group.cover
  pub size : cost.size ≡ length group.items

cost_tests : {T : Type 0} (s : Shape) (one two : Group T) (m n : Cost) → IsCost m one s → IsCost n two s → is_less_cost m n ≡ costs_less s one two
cost_tests s one two m n p q = rw (p.enlargement, p.area, p.size, q.enlargement, q.area, q.size)

module _ {T : Type 0} (cover : T → Shape) (rest : List T) (one two : Group T) (k : ℕ) (x : T) (taken : IsTaken cover rest one two k x) (m n : Cost)
    (cost_one : IsCost m one (cover x)) (cost_two : IsCost n two (cover x)) where
  pub step_to_one : (rest' xs : List T) (d : Shape) →
      is_less_cost n m ≡ false →
      rest' ≡ remove rest k →
      xs ≡ one.items ++ x ∷ [] →
      d ≡ cover_of one.cover (cover x) →
      (a b : List T) →
      IsDealt cover rest' (group xs d) two a b →
      IsDealt cover rest one two a b
  step_to_one rest' xs d less e f wide a b h =
      to_one taken (sym (cost_tests (cover x) two one n m cost_two cost_one) ∙ less) (rw (e, f, wide) at h)

  pub step_to_two : (rest' xs : List T) (d : Shape) →
      is_less_cost n m ≡ true →
      rest' ≡ remove rest k →
      xs ≡ two.items ++ x ∷ [] →
      d ≡ cover_of two.cover (cover x) →
      (a b : List T) →
      IsDealt cover rest' one (group xs d) a b →
      IsDealt cover rest one two a b
  step_to_two rest' xs d less e f wide a b h =
      to_two taken (sym (cost_tests (cover x) two one n m cost_two cost_one) ∙ less) (rw (e, f, wide) at h)

pub All-remove : {T : Type 0} (P : T → Type 0) (xs : List T) (i : ℕ) → All P xs → All P (remove xs i)
All-remove P xs i h = All-append P (take i xs) (drop (suc i) xs) (All-take P i xs h) (All-drop P (suc i) xs h)

taken_all : {T : Type 0} (cover : T → Shape) (P : T → Type 0) (rest : List T) (one two : Group T) (k : ℕ) (x : T) →
    All P rest →
    IsTaken cover rest one two k x →
    P x
taken_all cover P rest one two k x h t = subst P (sym t.item) (All-get_or P rest k x t.next.0 h)

-- every item is dealt, and none twice
pub dealt_lengths : {T : Type 0} (cover : T → Shape) {rest : List T} {one two : Group T} {a b : List T} →
    IsDealt cover rest one two a b →
    length a + length b ≡ length one.items + length two.items + length rest
dealt_lengths cover done = omega arith
dealt_lengths cover (rest_to_one h) = simp length-append (omega arith)
dealt_lengths cover (rest_to_two h) = simp length-append (omega arith)
dealt_lengths cover (to_one {rest} {one} {two} {k} {x} t c h) =
    omega (arith, dealt_lengths cover h, length-append one.items (x ∷ []), length-remove rest k t.next.0)
dealt_lengths cover (to_two {rest} {one} {two} {k} {x} t c h) =
    omega (arith, dealt_lengths cover h, length-append two.items (x ∷ []), length-remove rest k t.next.0)

-- each item is dealt once: every sum over the items is that over the groups
pub dealt_sums : {T : Type 0} (cover : T → Shape) (f : T → ℕ) {rest : List T} {one two : Group T} {a b : List T} →
    IsDealt cover rest one two a b →
    sum_by f a + sum_by f b ≡ sum_by f one.items + sum_by f two.items + sum_by f rest
dealt_sums cover f done = omega arith
dealt_sums cover f (rest_to_one {rest} {one} h) = omega (arith, sum_by-append f one.items rest)
dealt_sums cover f (rest_to_two {rest} {one} {two} h) = omega (arith, sum_by-append f two.items rest)
dealt_sums cover f (to_one {rest} {one} {two} {k} {x} t c h) =
    let at : get_or rest k x ≡ x = sym t.item in
    omega (arith, dealt_sums cover f h, sum_by_push f one.items x, rw at at (sum_by-remove f rest k x t.next.0))
dealt_sums cover f (to_two {rest} {one} {two} {k} {x} t c h) =
    let at : get_or rest k x ≡ x = sym t.item in
    omega (arith, dealt_sums cover f h, sum_by_push f two.items x, rw at at (sum_by-remove f rest k x t.next.0))

-- a fact of each item is a fact of each item of the groups
pub dealt_all : {T : Type 0} (cover : T → Shape) (P : T → Type 0) {rest : List T} {one two : Group T} {a b : List T} →
    All P rest →
    All P one.items →
    All P two.items →
    IsDealt cover rest one two a b →
    All P a × All P b
dealt_all cover P h m n done = (m, n)
dealt_all cover P h m n (rest_to_one {rest} {one} e) = (All-append P one.items rest m h, n)
dealt_all cover P h m n (rest_to_two {rest} {one} {two} e) = (m, All-append P two.items rest n h)
dealt_all cover P h m n (to_one {rest} {one} {two} {k} {x} t c d) =
    dealt_all cover P (All-remove P rest k h) (All-push P one.items x m (taken_all cover P rest one two k x h t)) n d
dealt_all cover P h m n (to_two {rest} {one} {two} {k} {x} t c d) =
    dealt_all cover P (All-remove P rest k h) m (All-push P two.items x n (taken_all cover P rest one two k x h t)) d

All-unremove : {T : Type 0} (P : T → Type 0) (xs : List T) (i : ℕ) (x : T) → i < length xs → x ≡ get_or xs i x → P x → All P (remove xs i) → All P xs
All-unremove P xs i x lt at p h =
    subst (All P) (ap (λ z. take i xs ++ z) (sym (drop-cons xs i x lt)) ∙ take-append-drop i xs)
    (All-append P (take i xs) (get_or xs i x ∷ drop (suc i) xs) (All-front P (take i xs) (drop (suc i) xs) h)
    (All-cons P (get_or xs i x) (drop (suc i) xs) (subst P at p) (All-back P (take i xs) (drop (suc i) xs) h)))

-- a fact of each item of the groups is a fact of each item that was assigned
pub dealt_back : {T : Type 0} (cover : T → Shape) (P : T → Type 0) {rest : List T} {one two : Group T} {a b : List T} →
    All P a →
    All P b →
    IsDealt cover rest one two a b →
    All P rest × All P one.items × All P two.items
dealt_back cover P h k done = (All-nil P, h, k)
dealt_back cover P h k (rest_to_one {rest} {one} e) = (All-back P one.items rest h, All-front P one.items rest h, k)
dealt_back cover P h k (rest_to_two {rest} {one} {two} e) = (All-back P two.items rest k, h, All-front P two.items rest k)
dealt_back cover P h k (to_one {rest} {one} {two} {k = i} {x} t c d) =
    let back = dealt_back cover P h k d in
    (All-unremove P rest i x t.next.0 t.item (All-last P one.items x back.1) back.0, All-front P one.items (x ∷ []) back.1, back.2)
dealt_back cover P h k (to_two {rest} {one} {two} {k = i} {x} t c d) =
    let back = dealt_back cover P h k d in
    (All-unremove P rest i x t.next.0 t.item (All-last P two.items x back.2) back.0, back.1, All-front P two.items (x ∷ []) back.2)

-- both groups end with enough
pub dealt_enough : {T : Type 0} (cover : T → Shape) {rest : List T} {one two : Group T} {a b : List T} →
    fewest ≤ length one.items + length rest →
    fewest ≤ length two.items + length rest →
    fewest + fewest ≤ length one.items + length two.items + length rest →
    IsDealt cover rest one two a b →
    (fewest ≤ length a) × (fewest ≤ length b)
dealt_enough cover m n o done = (omega arith, omega arith)
dealt_enough cover m n o (rest_to_one h) = (simp length-append (omega arith), omega arith)
dealt_enough cover m n o (rest_to_two h) = (omega arith, simp length-append (omega arith))
dealt_enough cover m n o (to_one {rest} {one} {two} {k} {x} t c h) =
    let shorter = length-remove rest k t.next.0 in
    let longer = length-append one.items (x ∷ []) in
    let free = t.can_choose.two_can_wait in
    dealt_enough cover (omega arith) (omega arith) (omega arith) h
dealt_enough cover m n o (to_two {rest} {one} {two} {k} {x} t c h) =
    let shorter = length-remove rest k t.next.0 in
    let longer = length-append two.items (x ∷ []) in
    let free = t.can_choose.one_can_wait in
    dealt_enough cover (omega arith) (omega arith) (omega arith) h

-- the second group takes the remaining items if there are none, or if it needs all
two_needs_all : (rest one two : ℕ) → 0 < rest → (CanChoose rest one two → ⊥) → one + rest ≢ fewest → two + rest ≡ fewest
two_needs_all rest one two some none can_wait =
    elim (cases_lt (two + rest) fewest) [
      | inl h ↦ absurd (none (record { some = some; one_can_wait = can_wait; two_can_wait = λ e. omega arith }))
      | inr h ↦
          elim (cases_lt fewest (two + rest)) [
            | inl k ↦ absurd (none (record { some = some; one_can_wait = can_wait; two_can_wait = λ e. omega arith }))
            | inr k ↦ omega arith
          ]
    ]

pub deal_ends : {T : Type 0} (cover : T → Shape) (rest : List T) (one two : Group T) →
    (CanChoose (length rest) (length one.items) (length two.items) → ⊥) →
    length one.items + length rest ≢ fewest →
    IsDealt cover rest one two one.items (two.items ++ rest)
deal_ends cover [] one two none can_wait = rw (append-nil two.items) done
deal_ends cover (x ∷ rest) one two none can_wait =
    rest_to_two (two_needs_all (length (x ∷ rest)) (length one.items) (length two.items) (omega arith) none can_wait)

-- a split keeps every sum over the items
pub split_sums : {T : Type 0} (cover : T → Shape) (f : T → ℕ) (items one two : List T) →
    IsSplit cover items one two →
    sum_by f one + sum_by f two ≡ sum_by f items
split_sums cover f items one two s =
    let removed : sum_by f (remove items s.j) + f s.y ≡ sum_by f items =
    subst (λ z. sum_by f (remove items s.j) + f z ≡ sum_by f items) (sym s.second_seed) (sum_by-remove f items s.j s.y s.seeds.in_range) in
    let shorter = length-remove items s.j s.seeds.in_range in
    let kept : s.x ≡ get_or (remove items s.j) s.i s.x = s.first_seed ∙ sym (get_or-remove_below items s.j s.x s.i s.seeds.ordered s.seeds.in_range) in
    let both : sum_by f (remove (remove items s.j) s.i) + f s.x ≡ sum_by f (remove items s.j) =
    subst (λ z. sum_by f (remove (remove items s.j) s.i) + f z ≡ sum_by f (remove items s.j)) (sym kept)
    (sum_by-remove f (remove items s.j) s.i s.x (omega (arith, shorter, s.seeds.ordered, s.seeds.in_range))) in
    omega (arith, dealt_sums cover f s.dealt)

seed_kept : {T : Type 0} (cover : T → Shape) (items one two : List T) (s : IsSplit cover items one two) → s.x ≡ get_or (remove items s.j) s.i s.x
seed_kept cover items one two s = s.first_seed ∙ sym (get_or-remove_below items s.j s.x s.i s.seeds.ordered s.seeds.in_range)

seed_inside : {T : Type 0} (cover : T → Shape) (items one two : List T) (s : IsSplit cover items one two) → s.i < length (remove items s.j)
seed_inside cover items one two s = omega (arith, length-remove items s.j s.seeds.in_range, s.seeds.ordered, s.seeds.in_range)

-- a fact of each item of both groups is a fact of each item
pub split_back : {T : Type 0} (cover : T → Shape) (P : T → Type 0) (items one two : List T) →
    All P one →
    All P two →
    IsSplit cover items one two →
    All P items
split_back cover P items one two h k s =
    let back = dealt_back cover P h k s.dealt in
    All-unremove P items s.j s.y s.seeds.in_range s.second_seed (All-head P s.y [] back.2)
    (All-unremove P (remove items s.j) s.i s.x (seed_inside cover items one two s) (seed_kept cover items one two s) (All-head P s.x [] back.1) back.0)

-- a fact of each item is a fact of each item of both groups
pub split_all : {T : Type 0} (cover : T → Shape) (P : T → Type 0) (items one two : List T) →
    All P items →
    IsSplit cover items one two →
    All P one × All P two
split_all cover P items one two h s =
    dealt_all cover P (All-remove P (remove items s.j) s.i (All-remove P items s.j h))
    (All-cons P s.x [] (subst P (sym s.first_seed) (All-get_or P items s.i s.x (omega (arith, s.seeds.ordered, s.seeds.in_range)) h)) (All-nil P))
    (All-cons P s.y [] (subst P (sym s.second_seed) (All-get_or P items s.j s.y s.seeds.in_range h)) (All-nil P))
    s.dealt

-- both groups together are the items as a collection
pub split_same : {T : Type 0} (cover : T → Shape) (items one two : List T) → IsSplit cover items one two → HasSame items (one ++ two)
split_same cover items one two s p =
    omega (arith, split_sums cover (λ x. cond {A = ℕ} (p x) 1 0) items one two s, sum_by-append (λ x. cond {A = ℕ} (p x) 1 0) one two)

-- the groups of a split of nine items
pub are_groups : {T : Type 0} (cover : T → Shape) (items one two : List T) → length items ≡ most + 1 → IsSplit cover items one two
    → AreGroups cover items one two
are_groups cover items one two nine s =
    let fewer = length-remove items s.j s.seeds.in_range in
    let seven = length-remove (remove items s.j) s.i (seed_inside cover items one two s) in
    let enough = dealt_enough cover (omega arith) (omega arith) (omega arith) s.dealt in
    record {
      split = s;
      same = split_same cover items one two s;
      one_enough = enough.0;
      two_enough = enough.1;
      all = omega (arith, dealt_lengths cover s.dealt);
    }

pub ruleset step_taken = (step_to_one, step_to_two)
