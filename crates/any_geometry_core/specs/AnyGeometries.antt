-- What a layer of any geometry holds of each feature: the geometry and its envelope.
use Rattle.std.specs.Prelude.{All}
use Rattle.geom_core.specs.declared.shape.Shape.{Shape}
use Rattle.plane_core.specs.declared.rings.Rings.{Rings}
use Rattle.plane_core.specs.Figures.{Figure}
use Rattle.plane_core.specs.ProperRings.{IsGeometryOf}
use Rattle.plane_core.specs.Vertices.{vertices_of, HoldsVertex}
use Rattle.any_geometry_core.specs.Envelopes.{IsLeastBox}
use Rattle.any_geometry_core.specs.declared.geometry.AnyGeometry.{AnyGeometry}

abbrev pub figure_of : AnyGeometry → Figure
figure_of g = g.geometry

abbrev pub rings_of : AnyGeometry → Rings
rings_of g = g.rings

-- the envelope
abbrev pub box_of : AnyGeometry → Shape
box_of g = g.bounds

-- by its type it is a geometry with such rings, and its envelope is the least box that holds all
-- vertices
pub is_geometry : (g : AnyGeometry) → ∥ IsGeometryOf (rings_of g) (figure_of g) ∥₁
is_geometry g = g.is_geometry

pub holds_vertices : (g : AnyGeometry)
    → ∥ All (HoldsVertex (box_of g)) (vertices_of (figure_of g)) ∥₁
holds_vertices g = g.holds

pub is_least : (g : AnyGeometry) → ∥ IsLeastBox (figure_of g) (box_of g) ∥₁
is_least g = g.least
