-- The smallest shape that contains an edge.
use Rattle.std.specs.Int.{int_min, int_max}
use Rattle.geom_core.specs.declared.shape.Shape.{Shape}
use Rattle.geom_core.specs.Shapes.{HasCorners}
use Rattle.plane_core.specs.declared.edge.Edge.{Edge}

abbrev pub IsBoxOf : Edge → Shape → Type 0
IsBoxOf e s =
    HasCorners
    (int_min e.a.x e.b.x) (int_min e.a.y e.b.y) (int_max e.a.x e.b.x) (int_max e.a.y e.b.y) s
