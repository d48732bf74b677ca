use Rattle.split_core.specs.Seeds.{IsBestBefore}
use Rattle.split_core.proofs.choices.best_of_row.Given as goal

abbrev pub invariant-loop-second : goal.invariant-loop-second
invariant-loop-second g l = IsBestBefore g.T.Covered.cover l.items l.first l.second l.best
