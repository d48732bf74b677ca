-- A text that both formats read: as a point, a segment or a rectangle, and as any geometry.
use Rattle.std.specs.Prelude.{ℕ, List, Ok}
use Rattle.geom_core.specs.declared.shape.Shape.{Shape}
use Rattle.plane_core.specs.Figures.{Figure}
use Rattle.plane_core.specs.declared.rings.Rings.{Rings}
use Rattle.number_core.specs.declared.scale.Scale.{Scale}
use Rattle.wkt_core.specs.Readings.{Reads as ReadsBox}
use Rattle.geometry_text_core.specs.Texts.{Reads}

-- the text spells this shape in the one format, and this geometry in the other
pub record ReadsBoth (scale : Scale) (rings : Rings) (text : List ℕ) (s : Shape) (g : Figure)
    : Type 0 where
  pub shape : ReadsBox scale text (Ok s)
  pub geometry : Reads scale rings text (Ok g)
