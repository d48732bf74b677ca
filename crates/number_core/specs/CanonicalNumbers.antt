-- The canonical text of a number of units.
use Rattle.std.specs.Prelude.{◌==◌, ◌/◌, ◌%◌, ◌^◌, ℕ, zero, suc, ℤ, pos, negsuc}
use Rattle.std.specs.Prelude.{List, [], ◌++◌, codes, decimal, if◌then◌else◌}
use Rattle.number_core.specs.declared.scale.Scale.{Scale}
use Rattle.number_core.specs.Scales.{digits_of}

-- the fraction f / 10^k, less than 1, as digits after a dot, up to the last that isn't 0
abbrev pub decimals : ℕ → ℕ → List ℕ
decimals zero f = []
decimals (suc k) f = if f == 0 then [] else decimal (f / 10 ^ k) ++ decimals k (f % 10 ^ k)

-- a dot and the decimals, if there are any
abbrev pub fraction : ℕ → ℕ → List ℕ
fraction k f = if f == 0 then [] else codes "." ++ decimals k f

-- n units of 10^-k: the whole part and the fraction
abbrev pub amount : ℕ → ℕ → List ℕ
amount k n = decimal (n / 10 ^ k) ++ fraction k (n % 10 ^ k)

-- a number of units, with a minus sign if it is negative
abbrev pub number : Scale → ℤ → List ℕ
number scale (pos n) = amount (digits_of scale) n
number scale (negsuc n) = codes "-" ++ amount (digits_of scale) (suc n)
