-- The number that a text spells at a scale, and the distance.
use Rattle.std.specs.Prelude.{◌≡◌, ◌≤◌, ℕ, ℤ, pos, nat_abs, IsTrue, List}
use Rattle.distance_core.specs.declared.distance.Distance.{Distance}
use Rattle.distance_core.specs.Units.{units_of}
use Rattle.number_core.specs.declared.scale.Scale.{Scale}
use Rattle.number_core.specs.ScaleLimits.{greatest_apart}
use Rattle.number_core.specs.Scales.{limits_of}
use Rattle.number_core.specs.Numbers.{Number, Numeral}
use Rattle.number_core.specs.Values.{is_whole, value}

-- the whole text is a number of the grammar, whole at the scale, with this value in its units
pub record SpellsNumber (scale : Scale) (text : List ℕ) (z : ℤ) : Type 0 where
  pub numeral : Numeral
  pub written : Number scale numeral text
  pub whole : IsTrue (is_whole scale numeral)
  pub same : value scale numeral ≡ z

-- the text spells no number from -d to d, where d is the greatest distance of the limits
abbrev pub SpellsNoNumber : Scale → List ℕ → Type 0
SpellsNoNumber scale text =
    (z : ℤ) → nat_abs z ≤ greatest_apart (limits_of scale) → ¬ (SpellsNumber scale text z)

-- the text spells the number of the units of this distance, which the limits allow
pub record SpellsDistance (scale : Scale) (text : List ℕ) (distance : Distance) : Type 0 where
  pub number : SpellsNumber scale text (pos (units_of distance))
  pub allowed : units_of distance ≤ greatest_apart (limits_of scale)

abbrev pub SpellsNoDistance : Scale → List ℕ → Type 0
SpellsNoDistance scale text = (distance : Distance) → ¬ (SpellsDistance scale text distance)
