use Rattle.std.proofs.Common.{List, ◌++◌, length}
use Rattle.geom_core.specs.declared.shape.Shape.{Shape}
use Rattle.edge_index_core.specs.Runs.{AreRunBoxes}
use Rattle.edge_index_core.proofs.runs.run_boxes.Given as goal

abbrev pub invariant-loop-rest : goal.invariant-loop-rest
invariant-loop-rest l = (more : List Shape) → AreRunBoxes l.rest more → AreRunBoxes l.edges (l.boxes.items ++ more)

abbrev pub decreases-loop-rest : goal.decreases-loop-rest
decreases-loop-rest l = length l.rest
