use Rattle.std.proofs.Common.{ℕ, ◌<◌}
use Rattle.relation_core.proofs.DisjointLemmas.{NoneFits}
use Rattle.relation_core.proofs.join_relation.allows_disjoint.Given as goal

abbrev pub invariant-loop-first_dim : goal.invariant-loop-first_dim
invariant-loop-first_dim l = (da : ℕ) → da < l.first_dim → NoneFits l.relation da
