-- The geometry that lists of points form.
use Rattle.std.specs.Prelude.{◌≡◌, ◌≢◌, ◌⊎◌, ◌==◌, ◌&&◌, ⊤, Bool}
use Rattle.std.specs.Prelude.{true, false, not, ℤ, pos, ◌+ℤ◌, ◌*ℤ◌, List}
use Rattle.std.specs.Prelude.{map, length, All}
use Rattle.std.specs.List.{filter}
use Rattle.wkt_core.specs.declared.keyword.Keyword.{Keyword}
use Rattle.wkt_core.specs.declared.keyword.Keyword.TheVariants.{Point, LineString, Polygon}
use Rattle.wkt_core.specs.declared.position.Position.{Position}
use Rattle.wkt_core.specs.Drawing.{corner, without_repeats}
use Rattle.plane_core.specs.declared.vertex.Vertex.{Vertex}
use Rattle.plane_core.specs.declared.outline.Kind.{Kind}
use Rattle.plane_core.specs.declared.outline.Kind.TheVariants.{Points as Dots}
use Rattle.plane_core.specs.declared.outline.Kind.TheVariants.{Lines as Polylines, Areas as Rings}
use Rattle.plane_core.specs.Figures.{Figure, IsGeometry}
use Rattle.plane_core.specs.Figures.Figure.{Areas}
use Rattle.plane_core.specs.Outlines.{kind_of}
use Rattle.plane_core.specs.Vertices.{paths_in}
use Rattle.plane_core.specs.declared.rings.Rings.{Rings as RingRule}
use Rattle.plane_core.specs.declared.rings.Rings.TheVariants.{Proper, EvenOdd}

abbrev pub position_of : Vertex → Position
position_of v = corner v.x v.y

abbrev pub positions_of : List (List Vertex) → List (List Position)
positions_of paths = map (map position_of) paths

abbrev pub kind_for : Keyword → Kind
kind_for Point = Dots
kind_for LineString = Polylines
kind_for Polygon = Rings

-- a path that is a single point
abbrev pub is_dot : List Position → Bool
is_dot ps = length ps == 1

-- whether a path that is a single point is left out
abbrev pub skips_dots : RingRule → Keyword → Bool
skips_dots EvenOdd Polygon = true
skips_dots _ _ = false

abbrev pub is_kept : Bool → List Position → Bool
is_kept skips ps = not (skips && is_dot ps)

-- the paths through lists of points: without points that are equal to the one before
abbrev pub drawn : Bool → List (List Position) → List (List Position)
drawn skips lists = filter (is_kept skips) (map without_repeats lists)

-- all vertices are on one line
pub record IsFlat (vs : List Vertex) : Type 0 where
  pub a : ℤ
  pub b : ℤ
  pub c : ℤ
  pub line : (a ≢ pos 0) ⊎ (b ≢ pos 0)
  pub on : All (λ v. a *ℤ v.x +ℤ b *ℤ v.y +ℤ c ≡ pos 0) vs

-- the rule allows the rings of an area
abbrev pub AreAllowed : RingRule → Figure → Type 0
AreAllowed Proper (Areas rings) = All (λ ring. ¬ (IsFlat ring)) rings
AreAllowed _ _ = ⊤

-- the lists of points, under this keyword, form the geometry
pub record Draws (rule : RingRule) (keyword : Keyword) (lists : List (List Position)) (g : Figure)
    : Type 0 where
  pub kind : kind_of g ≡ kind_for keyword
  pub paths : positions_of (paths_in g) ≡ drawn (skips_dots rule keyword) lists
  pub geometry : IsGeometry g
  pub allowed : AreAllowed rule g
