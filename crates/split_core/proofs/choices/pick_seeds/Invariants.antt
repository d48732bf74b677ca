use Rattle.split_core.specs.Seeds.{IsBestBefore}
use Rattle.split_core.proofs.choices.pick_seeds.Given as goal

abbrev pub invariant-loop-first : goal.invariant-loop-first
invariant-loop-first g l = IsBestBefore g.T.Covered.cover l.items l.first 0 l.best
