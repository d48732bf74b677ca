use Rattle.std.proofs.Common.{◌≡◌, ◌∙◌, ap, refl, not, Bool, true, false, ◌&&◌, ◌||◌, List, [], ◌∷◌}
use Rattle.std.specs.List.{list_any, list_all}
use Rattle.plane_core.specs.Points.{at, is_on}
use Rattle.shown_core.proofs.beyond.has_no_end.Goals as goal

none_of : {X : Type 0} (f : X → Bool) (xs : List X) → not (list_any f xs) ≡ list_all (λ x. not (f x)) xs
none_of f [] = refl
none_of f (x ∷ xs) = plain (f x) (list_any f xs) (list_all (λ y. not (f y)) xs) (none_of f xs)
  where
    plain : (t s u : Bool) → not s ≡ u → not (t || s) ≡ (not t && u)
    plain true s u h = refl
    plain false s u h = h

pub returns : goal.returns
returns c = ap not c.has_end_on.ensures ∙ none_of (λ v. is_on c.args.e.now (at v)) c.args.own.now.ends.items
