-- The features of the pairs of a join.
use Rattle.std.proofs.Common.{◌≡◌, ℕ, List, Option, Some, None, IsSome}
use Rattle.std.proofs.Common.{◌<◌, All, get_or, refl, sym, subst}
use Rattle.std.proofs.lemmas.List.{get_or-map, length-map}
use Rattle.layer_core.specs.Layers.{Feature, Contents, with_number}
use Rattle.filter_core.specs.Joins.{IsJoinList, StandIn}
use Rattle.refine_core.specs.declared.refined.Refined.{Refined}
use Rattle.refine_core.specs.Refinements.{pairs_of}
use Rattle.report_core.specs.Reports.{IsHeld}
use Rattle.filter_core.proofs.NumberLemmas.{contains_at}

-- a feature that was found is there
pub is_some_of : {G : Type 0} (o : Option (Feature G)) (f : Feature G) → o ≡ Some f → IsSome o
is_some_of None f e = absurd (let bad : None ≡ Some f = e in cc)
is_some_of (Some g) f e = refl

-- the layers hold the features of their pairs
pub pairs_held : {G : Type 0} (R : G → G → Type 0) (left right : Contents G) (pairs list : List (ℕ × ℕ)) → list ≡ pairs
    → IsJoinList (StandIn R left right) pairs → All (IsHeld left right) list
pairs_held R left right pairs list e joined =
    subst (All (IsHeld left right)) (sym e)
    (λ k d within.
    let s = (joined.exact (get_or pairs k d)).0 (contains_at pairs k d within) in
    (is_some_of (with_number (get_or pairs k d).0 left) s.first s.first_held, is_some_of (with_number (get_or pairs k d).1 right) s.second s.second_held))

-- and so they are of the matches that were found for these
pub matches_held : {G A : Type 0} (R : G → G → Type 0) (left right : Contents G) (matches list : List (Refined A)) → list ≡ matches
    → IsJoinList (StandIn R left right) (pairs_of matches) → All (λ found. IsHeld left right found.pair) list
matches_held {A = A} R left right matches list e joined =
    subst (All (λ (found : Refined A). IsHeld left right found.pair)) (sym e)
    (λ k d within.
    subst (IsHeld left right) (get_or-map (λ (r : Refined A). r.pair) matches k d d.pair within)
    (pairs_held R left right (pairs_of matches) (pairs_of matches) refl joined k d.pair
    (subst (λ (n : ℕ). k < n) (sym (length-map matches (λ (r : Refined A). r.pair))) within)))
