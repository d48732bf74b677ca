use Rattle.std.proofs.Common.{ℕ, ◌<◌}
use Rattle.relation_core.proofs.DisjointLemmas.{NotFits}
use Rattle.relation_core.proofs.join_relation.allows_disjoint_after.Given as goal

abbrev pub invariant-loop-second_dim : goal.invariant-loop-second_dim
invariant-loop-second_dim l = (db : ℕ) → db < l.second_dim → NotFits l.relation l.first_dim db
