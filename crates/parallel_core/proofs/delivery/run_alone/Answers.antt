use Rattle.std.proofs.Common.{rules}
use Rattle.relation_core.specs.JoinRelations.{relation_of}
use Rattle.parallel_core.proofs.OfferLemmas.{all_offered}
use Rattle.parallel_core.proofs.delivery.run_alone.Goals as goal

pub returns-clause-ok : goal.returns-clause-ok
returns-clause-ok g c =
    (all_offered (relation_of c.args.relation.now) (g.P.Rows.tasks c.args.rows.now) c.args.batch c.in_ok-fused.fused c.finish.result c.requires.batch
    c.in_ok-fused.ensures.tasks c.in_ok-fused.ensures.offered (search rules) (search rules)).0

pub returns-clause-err : goal.returns-clause-err
returns-clause-err g c =
    (all_offered (relation_of c.args.relation.now) (g.P.Rows.tasks c.args.rows.now) c.args.batch c.in_ok-fused.fused c.finish.result c.requires.batch
    c.in_ok-fused.ensures.tasks c.in_ok-fused.ensures.offered (search rules) (search rules)).1
