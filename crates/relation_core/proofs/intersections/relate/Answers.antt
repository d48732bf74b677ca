use Rattle.relation_core.proofs.PartLemmas.{matrix_holds}
use Rattle.relation_core.proofs.intersections.relate.Goals as goal

pub returns : goal.returns
returns c =
    rw c.matrix_by.ensures
    (matrix_holds _ _ c.of.result c.of-2.result (rw (c.x.ensures, c.x-2.ensures) at c.of.ensures) (rw (c.y.ensures, c.y-2.ensures) at c.of-2.ensures))
