use Rattle.std.proofs.Common.{◌≡◌, vec_len}
use Rattle.layer_tests.proofs.NumberLemmas.{AreBelow}
use Rattle.layer_tests.proofs.trees.Squares.listed.Given as goal

abbrev pub invariant-loop-number : goal.invariant-loop-number
invariant-loop-number l = record { below : AreBelow l.number l.entries.items; len : vec_len l.entries ≡ l.number }
