use Rattle.agreement_core.proofs.BoxTestLemmas.{segment_box}
use Rattle.agreement_core.proofs.boxes.as_segment.Goals as goal

pub returns-in-len2 : goal.returns-in-len2
returns-in-len2 c =
    segment_box c.args.path.now c.a-item.result c.b-item.result c.between.result c.in-len2.len_at_least c.in-len2.len_below c.a-item.is c.b-item.is
    c.between.ensures.corners c.between.ensures.dim
