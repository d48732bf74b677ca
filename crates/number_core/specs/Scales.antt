-- The number of decimals of a coordinate, its limits, and how numbers are read at a scale.
use Rattle.std.specs.Prelude.{ℕ, ℤ}
use Rattle.number_core.specs.declared.limits.Limits.{Limits}
use Rattle.number_core.specs.declared.scale.Rounding.{Rounding}
use Rattle.number_core.specs.declared.scale.Scale.{Scale}
use Rattle.number_core.specs.ScaleLimits.{IsWithin}

-- the decimals of a coordinate, which counts units of this power of one tenth
abbrev pub digits_of : Scale → ℕ
digits_of scale = scale.digits

-- whether a number has to be a whole number of units, or is rounded to one
abbrev pub rounding_of : Scale → Rounding
rounding_of scale = scale.rounding

-- whose limits coordinates have
abbrev pub limits_of : Scale → Limits
limits_of scale = scale.limits

-- a coordinate within the limits of the scale, in units
abbrev pub IsInRange : Scale → ℤ → Type 0
IsInRange scale units = IsWithin (limits_of scale) units
