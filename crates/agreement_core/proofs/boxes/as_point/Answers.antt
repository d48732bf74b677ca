use Rattle.agreement_core.proofs.BoxTestLemmas.{point_box}
use Rattle.agreement_core.proofs.boxes.as_point.Goals as goal

pub returns-in-len1 : goal.returns-in-len1
returns-in-len1 c =
    point_box c.args.points.now c.a-item.result c.between.result c.in-len1.len_at_least c.in-len1.len_below c.a-item.is c.between.ensures.corners c.between.ensures.dim
