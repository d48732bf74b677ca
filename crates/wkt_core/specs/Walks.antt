-- A walk from point to point: the points that are kept of it, and which of them form a shape.
use Rattle.std.specs.Prelude.{◌≡◌, ◌<◌, ℤ, int_lt, Bool, true, false, ◌&&◌, ◌||◌, ◌-◌, List, []}
use Rattle.std.specs.Prelude.{◌∷◌, ◌++◌}
use Rattle.std.specs.Prelude.{length, take, slice_get, Option, Some, None, if◌then◌else◌}
use Rattle.std.specs.Ordering.{int_eq}
use Rattle.geom_core.specs.declared.shape.Shape.{Shape}
use Rattle.geom_core.specs.Shapes.{HasCorners}
use Rattle.wkt_core.specs.declared.keyword.Keyword.{Keyword}
use Rattle.wkt_core.specs.declared.keyword.Keyword.TheVariants.{Point, LineString, Polygon}
use Rattle.wkt_core.specs.declared.position.Position.{Position}
use Rattle.wkt_core.specs.declared.walk.Walk.{Walk}
use Rattle.wkt_core.specs.Drawing.{is_same, IsRectangle}
use Rattle.wkt_core.specs.DrawnBefore.{IsSegment}

-- the second number is strictly between the first and the third
unfoldable pub is_inside : ℤ → ℤ → ℤ → Bool
is_inside a b c = (int_lt a b && int_lt b c) || (int_lt c b && int_lt b a)

-- q is strictly between p and r on a line along an axis
abbrev pub is_vertical : Position → Position → Position → Bool
is_vertical p q r = int_eq p.x q.x && (int_eq q.x r.x && is_inside p.y q.y r.y)

abbrev pub is_horizontal : Position → Position → Position → Bool
is_horizontal p q r = int_eq p.y q.y && (int_eq q.y r.y && is_inside p.x q.x r.x)

-- the path from p through q to r is straight and along an axis
abbrev pub is_straight : Position → Position → Position → Bool
is_straight p q r = is_vertical p q r || is_horizontal p q r

-- the points where a walk started and turned, and its current position
pub record Way : Type 0 where
  pub turns : List Position
  pub last : Option Position

abbrev pub goes_on_from : Option Position → Position → Position → Bool
goes_on_from None q r = false
goes_on_from (Some p) q r = is_straight p q r

-- the walk goes straight on through q to r
abbrev pub goes_on : List Position → Position → Position → Bool
goes_on turns q r = goes_on_from (slice_get turns (length turns - 1)) q r

-- the walk after one more point
abbrev pub stepped : List Position → Option Position → Position → Way
stepped turns None r = record { turns = turns; last = Some r }
stepped turns (Some q) r =
    if is_same q r then record { turns = turns; last = Some q }
    else if goes_on turns q r then record { turns = turns; last = Some r }
    else record { turns = turns ++ q ∷ []; last = Some r }

abbrev pub way_on : Way → List Position → Way
way_on way [] = way
way_on way (p ∷ ps) = way_on (stepped way.turns way.last p) ps

abbrev pub way_of : List Position → Way
way_of ps = way_on (record { turns = []; last = None }) ps

-- the kept points of a walk: its first six turns, which are more than form a shape, and, if there
-- are fewer, its current position
pub record IsKeptOf (walk : Walk) (way : Way) : Type 0 where
  pub turns : walk.turns.items ≡ take 6 way.turns
  pub last : length way.turns < 6 → walk.last ≡ way.last

-- the shape that a walk forms: a line has no turn, and a ring has three, or a fourth from which it
-- goes straight on through its start
abbrev pub DrawnBy : Keyword → List Position → Position → Shape → Type 0
DrawnBy Point [] p s = HasCorners p.x p.y p.x p.y s
DrawnBy LineString (p ∷ []) q s = IsSegment p q s
DrawnBy Polygon (a ∷ b ∷ c ∷ d ∷ []) e s = (e ≡ a) × IsRectangle a b c d s
DrawnBy Polygon (p ∷ a ∷ b ∷ c ∷ d ∷ []) e s =
    (e ≡ p) × (is_straight d p a ≡ true) × IsRectangle a b c d s
DrawnBy _ _ _ s = ⊥

abbrev pub IsDrawnBy : Keyword → List Position → Option Position → Shape → Type 0
IsDrawnBy keyword turns None s = ⊥
IsDrawnBy keyword turns (Some p) s = DrawnBy keyword turns p s
