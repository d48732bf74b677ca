use Rattle.std.proofs.Common.{take, All}
use Rattle.geom_core.specs.declared.shape.Shape.{Shape}
use Rattle.geom_core.specs.Cells.{IsIn}
use Rattle.plane_core.specs.Vertices.{HoldsVertex}
use Rattle.plane_core.proofs.envelope.envelope_of.Given as goal

abbrev pub invariant-loop-v : goal.invariant-loop-v
invariant-loop-v l = record {
  holds : All (HoldsVertex l.envelope) (take l.v-index l.vertices);
  least : (s : Shape) → All (HoldsVertex s) l.vertices → IsIn l.envelope s;
}
