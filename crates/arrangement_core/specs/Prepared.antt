-- A geometry that is prepared: its outline and its box.
use Rattle.std.specs.Prelude.{All}
use Rattle.geom_core.specs.declared.shape.Shape.{Shape}
use Rattle.plane_core.specs.declared.outline.Outline.{Outline}
use Rattle.plane_core.specs.Figures.{Figure, IsGeometry}
use Rattle.plane_core.specs.Outlines.{IsOutlineOf}
use Rattle.plane_core.specs.Vertices.{HoldsVertex, vertices_of}

pub record IsPrepared (g : Figure) (o : Outline) (s : Shape) : Type 0 where
  pub geometry : IsGeometry g
  pub outline : IsOutlineOf g o
  pub box : All (HoldsVertex s) (vertices_of g)
