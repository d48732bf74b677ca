use Rattle.std.proofs.Common.{ℕ, ◌≤◌}
use Rattle.rtree_core.specs.Trees.{IsFresh}
use Rattle.layer_tests.proofs.trees.Squares.grown.Given as goal

abbrev pub invariant-loop-number : goal.invariant-loop-number
invariant-loop-number l = (k : ℕ) → l.number ≤ k → IsFresh k l.tree
