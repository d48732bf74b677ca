use Rattle.nearest_core.proofs.StepLemmas.{visited_box}
use Rattle.nearest_core.proofs.search.visit.Goals as goal

pub square_of-requires-clause-boxes : goal.square_of-requires-clause-boxes
square_of-requires-clause-boxes g c =
    visited_box g.G.Geometry.box_of c.args.sought.now.query.now c.args.right.now c.args.sought.now.geometry.now c.args.sought.now.bounds c.args.next c.in-Boxed.candidate
    c.in-Feature.number c.in-Boxed.is c.in-Feature.is c.requires.next
