-- The edges of a geometry that are near edges of another.
use Rattle.std.specs.Prelude.{List, All}
use Rattle.plane_core.specs.declared.edge.Edge.{Edge}
use Rattle.plane_core.specs.declared.outline.Outline.{Outline}
use Rattle.noding_core.specs.Near.{IsFound}
use Rattle.noding_core.specs.ReadOffs.{IsOwn}

-- edges of the second geometry, among them each whose box meets that of an edge of the first
pub record HasNear (a b : Outline) (around : List Edge) : Type 0 where
  pub own : All (IsOwn b) around
  pub found : (e : Edge) → IsOwn a e → All (IsFound e around) b.edges.items
