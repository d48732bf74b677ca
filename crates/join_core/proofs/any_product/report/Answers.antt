use Rattle.layer_core.specs.Edits.{both}
use Rattle.join_core.proofs.AnyJoinLemmas.{matrices_reported, near_pairs}
use Rattle.join_core.proofs.any_product.report.Goals as goal

pub matrix_report-requires-clause-near : goal.matrix_report-requires-clause-near
matrix_report-requires-clause-near g c κs within =
    near_pairs c.args.relation.now (both c.args.left.now.list c.args.right.now.list) _ _ c.pairs.ensures c.in_ok-outcome.ensures.pairs

pub returns-clause-ok : goal.returns-clause-ok
returns-clause-ok g c =
    matrices_reported c.args.relation.now (both c.args.left.now.list c.args.right.now.list) _ _ c.pairs.ensures c.in_ok-outcome.ensures.pairs
    c.matrix_report.result c.matrix_report.ensures.ok
