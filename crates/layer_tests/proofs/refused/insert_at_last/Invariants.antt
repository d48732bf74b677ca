use Rattle.std.proofs.Common.{◌≡◌}
use Rattle.layer_tests.proofs.refused.insert_at_last.Given as goal

abbrev pub invariant-loop : goal.invariant-loop
invariant-loop l = l.tree ≡ l.initial.tree
