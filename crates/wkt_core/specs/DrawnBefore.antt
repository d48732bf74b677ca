-- The shapes of lists of two and of five points: all that formed a shape before points along a line
-- or a side were read.
use Rattle.std.specs.Prelude.{◌≡◌, ◌≢◌, List, [], ◌∷◌, ◌⊎◌}
use Rattle.geom_core.specs.declared.shape.Shape.{Shape}
use Rattle.geom_core.specs.Shapes.{HasCorners}
use Rattle.wkt_core.specs.declared.keyword.Keyword.{Keyword}
use Rattle.wkt_core.specs.declared.keyword.Keyword.TheVariants.{Point, LineString, Polygon}
use Rattle.wkt_core.specs.declared.position.Position.{Position}
use Rattle.wkt_core.specs.Drawing.{IsRectangle}

-- the segment between two distinct points that share a coordinate
pub record IsSegment (p q : Position) (s : Shape) : Type 0 where
  pub differ : p ≢ q
  pub parallel : (p.x ≡ q.x) ⊎ (p.y ≡ q.y)
  pub ends : HasCorners p.x p.y q.x q.y s ⊎ HasCorners q.x q.y p.x p.y s

-- two points for a line, the four corners and the first of them again for a ring
abbrev pub DrewBefore : Keyword → List Position → Shape → Type 0
DrewBefore Point (p ∷ []) s = HasCorners p.x p.y p.x p.y s
DrewBefore LineString (p ∷ q ∷ []) s = IsSegment p q s
DrewBefore Polygon (a ∷ b ∷ c ∷ d ∷ e ∷ []) s = (e ≡ a) × IsRectangle a b c d s
DrewBefore _ _ s = ⊥
