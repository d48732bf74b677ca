use Rattle.std.proofs.Common.{below_more, rules}
use Rattle.relation_core.proofs.DisjointLemmas.{none_allowed}
use Rattle.relation_core.proofs.join_relation.allows_disjoint.Goals as goal

pub loop-first_dim-preserved : goal.loop-first_dim-preserved
loop-first_dim-preserved c = below_more _ _ c.loop-first_dim.invariant (search (rules, none_allowed))
