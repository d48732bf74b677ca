use Rattle.layer_tests.proofs.NumberLemmas.{AreBelow}
use Rattle.layer_tests.proofs.threads.listed.Given as goal

abbrev pub invariant-loop-number : goal.invariant-loop-number
invariant-loop-number l = AreBelow l.number l.entries.items
