-- The meaning of a text: the values of its numbers, and the shape that its lists of points form.
use Rattle.std.specs.Prelude.{ℕ, List, [], ◌∷◌, map}
use Rattle.std.specs.List.{AllByRecursion}
use Rattle.geom_core.specs.declared.shape.Shape.{Shape}
use Rattle.geom_core.specs.Shapes.{x1, y1, x2, y2}
use Rattle.number_core.specs.declared.limits.Limits.{Limits}
use Rattle.number_core.specs.declared.scale.Scale.{Scale}
use Rattle.number_core.specs.ScaleLimits.{IsWithin}
use Rattle.number_core.specs.Values.{value, IsGood}
use Rattle.wkt_core.specs.declared.keyword.Keyword.{Keyword}
use Rattle.wkt_core.specs.declared.position.Position.{Position}
use Rattle.wkt_core.specs.Grammar.{RawPoint, Raw}
use Rattle.wkt_core.specs.Drawing.{Draws}

abbrev pub HasGoodNumbers : Scale → RawPoint → Type 0
HasGoodNumbers scale p = IsGood scale p.x × IsGood scale p.y

abbrev pub AllNumbersGood : Scale → List (List RawPoint) → Type 0
AllNumbersGood scale lists = AllByRecursion (AllByRecursion (HasGoodNumbers scale)) lists

abbrev pub position : Scale → RawPoint → Position
position scale p = record { x = value scale p.x; y = value scale p.y }

abbrev pub positions : Scale → List (List RawPoint) → List (List Position)
positions scale lists = map (map (position scale)) lists

-- the shape that a single list forms
abbrev pub Forms : Keyword → List (List Position) → Shape → Type 0
Forms keyword (ps ∷ []) s = Draws keyword ps s
Forms keyword _ s = ⊥

-- the text is well formed, its numbers are whole and in range, and its points form the shape
pub record Spells (scale : Scale) (text : List ℕ) (s : Shape) : Type 0 where
  pub keyword : Keyword
  pub lists : List (List RawPoint)
  pub raw : Raw scale text keyword lists
  pub good : AllNumbersGood scale lists
  pub forms : Forms keyword (positions scale lists) s

-- a shape whose coordinates are within these limits
pub record IsShapeWithin (limits : Limits) (s : Shape) : Type 0 where
  pub first_x : IsWithin limits (x1 s)
  pub first_y : IsWithin limits (y1 s)
  pub second_x : IsWithin limits (x2 s)
  pub second_y : IsWithin limits (y2 s)

-- the text isn't well formed
abbrev pub HasNoRawForm : Scale → List ℕ → Type 0
HasNoRawForm scale text =
    (keyword : Keyword) (lists : List (List RawPoint)) → ¬ (Raw scale text keyword lists)

-- some raw form of the text has a number that isn't whole or is out of range
pub record HasBadNumber (scale : Scale) (text : List ℕ) : Type 0 where
  pub keyword : Keyword
  pub lists : List (List RawPoint)
  pub raw : Raw scale text keyword lists
  pub bad : ¬ (AllNumbersGood scale lists)

-- the text is well formed with good numbers, but forms no shape
pub record HasNoShape (scale : Scale) (text : List ℕ) : Type 0 where
  pub keyword : Keyword
  pub lists : List (List RawPoint)
  pub raw : Raw scale text keyword lists
  pub good : AllNumbersGood scale lists
  pub formless : (s : Shape) → ¬ (Forms keyword (positions scale lists) s)
