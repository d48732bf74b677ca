use Rattle.split_core.proofs.ChoiceLemmas.{IsLeastSoFar}
use Rattle.split_core.proofs.choices.choose.Given as goal

abbrev pub invariant-loop-place : goal.invariant-loop-place
invariant-loop-place g l = IsLeastSoFar g.T.Covered.cover l.shape l.items l.place l.best l.least
