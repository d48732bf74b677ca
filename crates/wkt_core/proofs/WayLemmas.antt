-- The kept points of a walk are those where its path turns.
use Rattle.std.proofs.Common.{◌≡◌, ◌-◌, List, [], ◌∷◌, ◌++◌, length, Some, refl, ap, subst, arith}
use Rattle.std.specs.Prelude.{slice_get}
use Rattle.std.proofs.lemmas.List.{append_assoc, length-append}
use Rattle.wkt_core.specs.declared.position.Position.{Position}
use Rattle.wkt_core.specs.Drawing.{is_same, without_repeats_of}
use Rattle.wkt_core.specs.Walks.{Way, goes_on, goes_on_from, is_straight, stepped, way_on}
use Rattle.number_core.proofs.NumberLemmas.{by_bool}
use Rattle.wkt_core.proofs.RunLemmas.{bends, trail}

-- the position of a walk, and its turns up to there
pub record Ends (w : Way) (vs : List Position) : Type 0 where
  pub end : Position
  pub last : w.last ≡ Some end
  pub all : w.turns ++ end ∷ [] ≡ vs

get_last : (front : List Position) (p : Position) → slice_get (front ++ p ∷ []) (length front) ≡ Some p
get_last [] p = refl
get_last (q ∷ front) p = get_last front p

last_turn : (front : List Position) (p : Position) → slice_get (front ++ p ∷ []) (length (front ++ p ∷ []) - 1) ≡ Some p
last_turn front p =
    let e : length front ≡ length (front ++ p ∷ []) - 1 = omega (arith, length-append front (p ∷ [])) in
    subst (λ n. slice_get (front ++ p ∷ []) n ≡ Some p) e (get_last front p)

goes : (front : List Position) (p q r : Position) → goes_on (front ++ p ∷ []) q r ≡ is_straight p q r
goes front p q r = ap (λ o. goes_on_from o q r) (last_turn front p)

pub way_bends : (front : List Position) (p q : Position) (rs : List Position)
    → Ends (way_on (record { turns = front ++ p ∷ []; last = Some q }) rs) (front ++ (p ∷ bends p q (without_repeats_of q rs)))
way_bends front p q [] = record { end = q; last = refl; all = append_assoc front (p ∷ []) (q ∷ []) }
way_bends front p q (r ∷ rs) =
    by_bool (is_same q r)
    (λ t. rw t (way_bends front p q rs))
    (λ f. rw f (by_bool (is_straight p q r)
    (λ s. rw (goes front p q r, s) (way_bends front p r rs))
    (λ s. rw (goes front p q r, s) (subst (Ends (way_on (record { turns = (front ++ p ∷ []) ++ q ∷ []; last = Some r }) rs))
    (append_assoc front (p ∷ []) (q ∷ bends q r (without_repeats_of r rs))) (way_bends (front ++ p ∷ []) q r rs)))))

pub way_trail : (p : Position) (ps : List Position)
    → Ends (way_on (record { turns = []; last = Some p }) ps) (p ∷ trail p (without_repeats_of p ps))
way_trail p [] = record { end = p; last = refl; all = refl }
way_trail p (q ∷ ps) =
    by_bool (is_same p q)
    (λ t. rw t (way_trail p ps))
    (λ f. rw f (way_bends [] p q ps))

-- one step more
pub way_more : (w : Way) (ps : List Position) (p : Position) → way_on w (ps ++ p ∷ []) ≡ stepped (way_on w ps).turns (way_on w ps).last p
way_more w [] p = refl
way_more w (q ∷ ps) p = way_more (stepped w.turns w.last q) ps p
