-- The shapes of texts before coordinates had decimals, reached 10^12 and were read with points
-- along a line or a side: numbers were integers of absolute value at most 10^9.
use Rattle.std.specs.Prelude.{◌≡◌, ◌==◌, ◌≤ℤ◌, ℕ, ℤ, pos, neg_ℤ, List, [], ◌∷◌, IsTrue, map}
use Rattle.std.specs.List.{AllByRecursion, list_all}
use Rattle.std.specs.Str.Parse.{digits_value}
use Rattle.geom_core.specs.declared.shape.Shape.{Shape}
use Rattle.wkt_core.specs.declared.keyword.Keyword.{Keyword}
use Rattle.wkt_core.specs.declared.position.Position.{Position}
use Rattle.number_core.specs.declared.scale.Rounding.TheVariants.{Exact}
use Rattle.number_core.specs.declared.scale.Scale.{Scale}
use Rattle.number_core.specs.Scales.{rounding_of}
use Rattle.number_core.specs.Numbers.{Numeral}
use Rattle.wkt_core.specs.Grammar.{RawPoint, Raw}
use Rattle.number_core.specs.Values.{signed}
use Rattle.wkt_core.specs.DrawnBefore.{DrewBefore}

abbrev pub greatest_before : ℕ
greatest_before = 1000000000

-- the number before the dot
abbrev pub value_before : Numeral → ℤ
value_before n = signed n.negative (digits_value 10 n.digits)

-- only digits 0 after the dot, and within the limit
pub record WasGood (n : Numeral) : Type 0 where
  pub whole : IsTrue (list_all (λ d. d == 48) n.decimals)
  pub above : neg_ℤ (pos greatest_before) ≤ℤ value_before n
  pub below : value_before n ≤ℤ pos greatest_before

abbrev pub HadGoodNumbers : RawPoint → Type 0
HadGoodNumbers p = WasGood p.x × WasGood p.y

abbrev pub position_before : RawPoint → Position
position_before p = record { x = value_before p.x; y = value_before p.y }

-- a text of one list of points, read without rounding, with these numbers, that form the shape
pub record SpelledBefore (text : List ℕ) (s : Shape) : Type 0 where
  pub keyword : Keyword
  pub points : List RawPoint
  pub scale : Scale
  pub exact : rounding_of scale ≡ Exact
  pub raw : Raw scale text keyword (points ∷ [])
  pub good : AllByRecursion HadGoodNumbers points
  pub drew : DrewBefore keyword (map position_before points) s
