-- The number that 64 bits represent as a double (IEEE 754-2019, binary64, 3.4).
use Rattle.std.specs.Prelude.{◌==◌, ◌+◌, ◌-◌, ◌*◌, ◌/◌, ◌%◌, ◌^◌, ◌<◌, ◌&&◌, ℕ, Bool, nat_lt}
use Rattle.std.specs.Prelude.{if◌then◌else◌}

-- the sign, 11 bits of exponent and 52 bits of fraction
abbrev pub is_negative : ℕ → Bool
is_negative bits = bits / 2 ^ 63 == 1

abbrev pub exponent : ℕ → ℕ
exponent bits = bits / 2 ^ 52 % 2 ^ 11

abbrev pub fraction : ℕ → ℕ
fraction bits = bits % 2 ^ 52

-- not a number: with the exponent of the infinities, but a fraction
abbrev pub is_nan : ℕ → Bool
is_nan bits = (exponent bits == 2047) && nat_lt 0 (fraction bits)

-- neither an infinity nor a NaN
abbrev pub IsFinite : ℕ → Type 0
IsFinite bits = exponent bits < 2047

-- The size of a finite double is significand * 2 ^ (place - 1075). Below the normal doubles, at
-- exponent 0, the first bit isn't added, and the place is that of exponent 1.
abbrev pub significand : ℕ → ℕ
significand bits = if exponent bits == 0 then fraction bits else 2 ^ 52 + fraction bits

abbrev pub place : ℕ → ℕ
place bits = if exponent bits == 0 then 1 else exponent bits

-- the step from a double to the next one of the same place is step / denominator
abbrev pub step : ℕ → ℕ
step bits = 2 ^ (place bits - 1075)

abbrev pub denominator : ℕ → ℕ
denominator bits = 2 ^ (1075 - place bits)

-- the size of a finite double is numerator / denominator
abbrev pub numerator : ℕ → ℕ
numerator bits = significand bits * step bits

-- the double below is only half a step away, as at a power of two
abbrev pub is_edge : ℕ → Bool
is_edge bits = (fraction bits == 0) && nat_lt 1 (exponent bits)
