use Rattle.agreement_core.proofs.BoxTestLemmas.{ring_box}
use Rattle.agreement_core.proofs.boxes.as_rectangle.Goals as goal

pub returns-in-len5 : goal.returns-in-len5
returns-in-len5 c =
    ring_box c.args.ring.now c.a-item.result c.b-item.result c.c-item.result c.d-item.result c.e-item.result c.between.result c.in-len5.len_at_least
    c.in-len5.len_below c.a-item.is c.b-item.is c.c-item.is c.d-item.is c.e-item.is (c.goes_round.ensures c.if-goes_round.true)
    c.between.ensures.corners c.between.ensures.dim
