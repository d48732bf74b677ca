use Rattle.test_data.proofs.NumberLemmas.{AreBelow}
use Rattle.test_data.proofs.points.listed.Given as goal

abbrev pub invariant-loop-number : goal.invariant-loop-number
invariant-loop-number l = AreBelow l.number l.entries.items
