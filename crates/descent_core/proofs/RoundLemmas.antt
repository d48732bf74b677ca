-- A round's list of tasks, pair by pair, and when there are too many.
use Rattle.std.proofs.Common.{arith, ◌≡◌, ◌≢◌, ℕ, ◌+◌, ◌<◌, ◌≤◌, List, [], ◌∷◌, ◌++◌, length, get_or, take, drop, map, length-append, sym, ◌∙◌, ap, subst}
use Rattle.std.proofs.Common.{append_assoc, Bor, inl, inr}
use Rattle.std.specs.Prelude.{◌⊎◌, ℤ}
use Rattle.std.specs.List.{flat_map}
use Rattle.std.proofs.lemmas.Int.{ints, by_lt_z}
use Rattle.std.proofs.lemmas.List.{append-nil, take_more, take-append-drop, map-append, take_all}
use Rattle.std.proofs.lemmas.List.Concat.{flat_map-append, flat_map_single}
use Rattle.geom_core.specs.declared.span.Span.{Span}
use Rattle.geom_core.specs.declared.shape.Shape.{Shape}
use Rattle.geom_core.specs.Cells.{IsWithin, Meets}
use Rattle.geom_core.proofs.SpanLemmas.{common_line}
use Rattle.rtree_core.specs.declared.node.Node.{Node}
use Rattle.descent_core.specs.Lists.{IsKept, none, kept, left_out}
use Rattle.descent_core.specs.Plans.{most_tasks}
use Rattle.descent_core.specs.Plans.{CoversMeet}
use Rattle.descent_core.specs.Steps.{nodes, nodes_of, AreTaken, AreTooMany}
use Rattle.descent_core.proofs.KeptLemmas.{kept_append, kept_some}

abbrev SpansMeet : Span → Span → Type 0
SpansMeet a b = (u : ℤ) × IsWithin a u × IsWithin b u

spans_meet_or_not : (a b : Span) → SpansMeet a b ⊎ ¬ (SpansMeet a b)
spans_meet_or_not a b =
    by_lt_z {P = SpansMeet a b ⊎ ¬ (SpansMeet a b)} a.hi b.lo
    (λ apart. inr (λ h. let first = h.1 in
    let second = h.2 in
    omega (arith, ints)))
    (λ h. by_lt_z {P = SpansMeet a b ⊎ ¬ (SpansMeet a b)} b.hi a.lo
    (λ apart. inr (λ k. let first = k.1 in
    let second = k.2 in
    omega (arith, ints)))
    (λ k. inl (common_line a b k h)))

pub meet_or_not : (a b : Shape) → Meets a b ⊎ ¬ (Meets a b)
meet_or_not a b =
    elim (spans_meet_or_not a.x b.x) [
      | inl x ↦ elim (spans_meet_or_not a.y b.y) [
        | inl y ↦ inl (x.0, y.0, (x.1, y.1), (x.2, y.2))
        | inr y ↦ inr (λ m. y (m.1, m.2.1, m.3.1))
      ]
      | inr x ↦ inr (λ m. x (m.0, m.2.0, m.3.0))
    ]

covers_meet_or_not : (p : Node × Node) → CoversMeet p ⊎ ¬ (CoversMeet p)
covers_meet_or_not p = meet_or_not p.0.cover p.1.cover

-- the sublist that is kept of a list always exists
pub some_met : (pairs : List (Node × Node)) → (met : List (Node × Node)) × IsKept CoversMeet pairs met
some_met pairs = kept_some CoversMeet covers_meet_or_not pairs

pub taken_none : (old : List (Node × Node)) → length old ≤ most_tasks → AreTaken [] old old
taken_none old few = record { met = []; kept = none; items = sym (append-nil old); few = few }

taken_append : (a b old mid new : List (Node × Node)) → AreTaken a old mid → AreTaken b mid new → AreTaken (a ++ b) old new
taken_append a b old mid new p q = record {
  met = p.met ++ q.met;
  kept = kept_append CoversMeet p.kept q.kept;
  items = q.items ∙ ap (λ xs. xs ++ q.met) p.items ∙ append_assoc old p.met q.met;
  few = q.few;
}

many_later : (a b c old mid : List (Node × Node)) → AreTaken a old mid → AreTooMany b mid → AreTooMany ((a ++ b) ++ c) old
many_later a b c old mid p q =
    let rest = some_met c in
    record {
      met = (p.met ++ q.met) ++ rest.0;
      kept = kept_append CoversMeet (kept_append CoversMeet p.kept q.kept) rest.1;
      many = omega (arith, q.many, ap length p.items, length-append old p.met, length-append p.met q.met, length-append (p.met ++ q.met) rest.0);
    }

-- the pairs that each item of a list gives, up to one of its items and with it
module _ {T : Type 0} (g : T → List (Node × Node)) (xs : List T) (i : ℕ) (x : T) (old mid : List (Node × Node))
    (lt : i < length xs) (at : x ≡ get_or xs i x) (so_far : AreTaken (flat_map g (take i xs)) old mid) where
  with_this : flat_map g (take (i + 1) xs) ≡ flat_map g (take i xs) ++ g x
  with_this =
      ap (flat_map g) (take_more xs i x lt) ∙ flat_map-append g (take i xs) (get_or xs i x ∷ []) ∙ ap
      (λ ys. flat_map g (take i xs) ++ ys) (append-nil (g (get_or xs i x)) ∙ ap g (sym at))

  whole : flat_map g xs ≡ (flat_map g (take i xs) ++ g x) ++ flat_map g (drop (i + 1) xs)
  whole =
      ap (flat_map g) (sym (take-append-drop (i + 1) xs)) ∙ flat_map-append g (take (i + 1) xs) (drop (i + 1) xs) ∙ ap
      (λ ys. ys ++ flat_map g (drop (i + 1) xs)) with_this

  pub taken_more : (new : List (Node × Node)) → AreTaken (g x) mid new → AreTaken (flat_map g (take (i + 1) xs)) old new
  taken_more new h = rw with_this (taken_append (flat_map g (take i xs)) (g x) old mid new so_far h)

  pub too_many : AreTooMany (g x) mid → AreTooMany (flat_map g xs) old
  too_many h = rw whole (many_later (flat_map g (take i xs)) (g x) (flat_map g (drop (i + 1) xs)) old mid so_far h)

-- the pair of a left node with a right one, as a list
abbrev pub alone : Node → Node → List (Node × Node)
alone left right = (left, right) ∷ []

pub alone_all : (left : Node) (rights : List Node) → flat_map (alone left) rights ≡ map (λ right. (left, right)) rights
alone_all left rights = flat_map_single (λ right. (left, right)) rights

-- a pair whose covers meet comes to the end
pub nodes_pushed : (old new : List (Bor Node × Bor Node)) (t : Bor Node × Bor Node) (pair : Node × Node) → new ≡ old ++ t ∷ [] → nodes t ≡ pair →
    nodes_of new ≡ nodes_of old ++ pair ∷ []
nodes_pushed old new t pair items same = ap nodes_of items ∙ map-append nodes old (t ∷ []) ∙ ap (λ p. nodes_of old ++ p ∷ []) same

pub takes_pushed : (left right : Node) (old new : List (Node × Node)) → CoversMeet (left, right) → length old ≤ most_tasks → length old ≢ most_tasks →
    new ≡ old ++ (left, right) ∷ [] → AreTaken (alone left right) old new
takes_pushed left right old new meet few more pushed =
    record {
      met = (left, right) ∷ [];
      kept = kept meet none;
      items = pushed;
      few = omega (arith, ap length pushed, length-append old ((left, right) ∷ []));
    }

pub takes_not_one : (left right : Node) (old : List (Node × Node)) → ¬ (CoversMeet (left, right)) → length old ≤ most_tasks →
    AreTaken (alone left right) old old
takes_not_one left right old apart few = record { met = []; kept = left_out apart none; items = sym (append-nil old); few = few }

pub full_for_one : (left right : Node) (old : List (Node × Node)) → CoversMeet (left, right) → length old ≡ most_tasks → AreTooMany (alone left right) old
full_for_one left right old meet full = record { met = (left, right) ∷ []; kept = kept meet none; many = omega arith }

-- the result of adding all items
pub taken_all : {T : Type 0} (g : T → List (Node × Node)) (xs : List T) (i : ℕ) (old new : List (Node × Node)) → length xs ≤ i →
    AreTaken (flat_map g (take i xs)) old new → AreTaken (flat_map g xs) old new
taken_all g xs i old new le h = subst (λ ys. AreTaken (flat_map g ys) old new) (take_all i xs le) h

-- the pairs of a left node with each of these
abbrev pub beside : List Node → Node → List (Node × Node)
beside rights left = map (λ right. (left, right)) rights
