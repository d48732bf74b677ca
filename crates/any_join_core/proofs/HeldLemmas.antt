-- The envelope of a geometry holds its vertices.
use Rattle.std.specs.Prelude.{All}
use Rattle.std.proofs.Math.Logic.{∥∥₁_elim}
use Rattle.std.proofs.Props.{props}
use Rattle.plane_core.specs.Vertices.{vertices_of, HoldsVertex}
use Rattle.any_geometry_core.specs.declared.geometry.AnyGeometry.{AnyGeometry}
use Rattle.any_geometry_core.specs.AnyGeometries.{figure_of, box_of, holds_vertices}

pub holds_all : (g : AnyGeometry) → All (HoldsVertex (box_of g)) (vertices_of (figure_of g))
holds_all g = ∥∥₁_elim (holds_vertices g) (hlevel props) (λ h. h)
