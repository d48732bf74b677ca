-- The part of a geometry in which an edge, or a point off an area's boundary, lies.
use Rattle.std.specs.Prelude.{◌≡◌, ◌≢◌, ◌<◌, true, IfSome}
use Rattle.plane_core.specs.declared.edge.Edge.{Edge}
use Rattle.plane_core.specs.declared.outline.Outline.{Outline}
use Rattle.plane_core.specs.declared.outline.Kind.TheVariants.{Areas as Rings}
use Rattle.plane_core.specs.declared.part.Part.{Part}
use Rattle.plane_core.specs.declared.part.Part.TheVariants.{Boundary}
use Rattle.plane_core.specs.Points.{Point, is_on}
use Rattle.plane_core.specs.Outlines.{outline_part, outline_above}
use Rattle.shown_core.specs.declared.course.Course.{Course}

-- all points of an edge and those just above them are in one part of a geometry
pub record LiesIn (o : Outline) (e : Edge) (part : Part) : Type 0 where
  pub on : (p : Point) → 0 < p.w → is_on e p ≡ true → outline_part o p ≡ part
  pub above : (p : Point) → 0 < p.w → is_on e p ≡ true → outline_above o p ≡ part

-- an edge that is known to lie in a part does lie in it
abbrev pub IsKnownIn : Outline → Course → Type 0
IsKnownIn o c = IfSome c.part (LiesIn o c.edge)

-- a point off an area's boundary, and the points just above it, are in one part
pub record LiesOff (o : Outline) (p : Point) (part : Part) : Type 0 where
  pub area : o.kind ≡ Rings
  pub off : part ≢ Boundary
  pub on : outline_part o p ≡ part
  pub above : outline_above o p ≡ part
