use Rattle.std.proofs.Common.{ℕ, ◌≤◌}
use Rattle.rtree_core.specs.Trees.{IsFresh}
use Rattle.layer_tests.proofs.rtree_mixed.Trial.edit.Given as goal

abbrev pub invariant-loop-number : goal.invariant-loop-number
invariant-loop-number l = (k : ℕ) → l.number ≤ k → IsFresh k l.self.tree
