use Rattle.std.proofs.Common.{◌≡◌, get_or}
use Rattle.std.specs.List.{IsFirstMaxByKey}
use Rattle.split_core.specs.Choices.{difference}
use Rattle.split_core.proofs.choices.pick_next.Given as goal

abbrev pub invariant-loop-place : goal.invariant-loop-place
invariant-loop-place g l = record {
  best : IsFirstMaxByKey (λ x. difference l.one l.two (g.T.Covered.cover x)) l.rest l.place l.best;
  greatest : (d : _) → l.greatest ≡ difference l.one l.two (g.T.Covered.cover (get_or l.rest l.best d));
}
