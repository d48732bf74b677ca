use Rattle.std.proofs.Common.{arith, below_more, rules}
use Rattle.std.proofs.lemmas.Bool.{false≢true}
use Rattle.relation_core.proofs.DisjointLemmas.{not_fits}
use Rattle.relation_core.proofs.join_relation.allows_disjoint_after.Goals as goal

pub loop-second_dim-preserved : goal.loop-second_dim-preserved
loop-second_dim-preserved c = below_more _ _ c.loop-second_dim.invariant (search (rules, not_fits))

pub returns : goal.returns
returns c = (
  λ e. absurd (false≢true e),
  λ w. absurd ((c.loop-second_dim.invariant w.0 (omega (arith, w.1, c.loop-second_dim-test.false))).not w.2),
)
