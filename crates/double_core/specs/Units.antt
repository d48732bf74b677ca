-- A double in units of a scale.
use Rattle.std.specs.Prelude.{◌≡◌, ◌+◌, ◌-◌, ◌*◌, ◌/◌, ◌^◌, ◌<◌, ◌≤◌, ℕ, ℤ, pos, neg_ℤ}
use Rattle.std.specs.Prelude.{Bool, true, false}
use Rattle.double_core.specs.declared.double.Fault.{Fault}
use Rattle.double_core.specs.declared.double.Fault.TheVariants.{NotFinite, NotWhole, OutOfRange}
use Rattle.double_core.specs.Doubles.{IsFinite, is_negative}
use Rattle.double_core.specs.Decimals.{ReadsBack, IsShortest}

abbrev pub most_decimals : ℕ
most_decimals = 15

abbrev pub greatest_units : ℕ
greatest_units = 1000000000000000000

abbrev pub signed : Bool → ℕ → ℤ
signed false n = pos n
signed true n = neg_ℤ (pos n)

-- the double's shortest decimal has at most `scale` decimals, and so many units of 10 ^ -scale
pub record IsWhole (bits scale units : ℕ) : Type 0 where
  pub decimals : ℕ
  pub number : ℕ
  pub shortest : IsShortest bits decimals number
  pub few : decimals ≤ scale
  pub same : units ≡ number * 10 ^ (scale - decimals)

-- no decimal with at most `scale` decimals reads as the double
abbrev pub IsNotWhole : ℕ → ℕ → Type 0
IsNotWhole bits scale = (k n : ℕ) → k ≤ scale → ¬ ReadsBack bits k n

-- the units that the double is read as, without its sign and with it
pub record IsReadAs (bits scale : ℕ) (units : ℤ) : Type 0 where
  pub size : ℕ
  pub whole : IsWhole bits scale size
  pub in_range : size ≤ greatest_units
  pub same : units ≡ signed (is_negative bits) size

-- when each fault comes
pub record IsTooGreat (bits scale : ℕ) : Type 0 where
  pub size : ℕ
  pub whole : IsWhole bits scale size
  pub great : greatest_units < size

abbrev pub HasFault : ℕ → ℕ → Fault → Type 0
HasFault bits scale NotFinite = ¬ IsFinite bits
HasFault bits scale NotWhole = IsFinite bits × IsNotWhole bits scale
HasFault bits scale OutOfRange = IsTooGreat bits scale

-- the whole number nearest to a / b, the greater one of two
abbrev pub nearest : ℕ → ℕ → ℕ
nearest a b = (2 * a + b) / (2 * b)

-- the units of 10 ^ -scale nearest to the double's shortest decimal
pub record IsRounded (bits scale units : ℕ) : Type 0 where
  pub decimals : ℕ
  pub number : ℕ
  pub shortest : IsShortest bits decimals number
  pub same : units ≡ nearest (number * 10 ^ scale) (10 ^ decimals)

-- the units that the double is rounded to, without its sign and with it: half a unit is rounded
-- away from zero
pub record IsRoundedTo (bits scale : ℕ) (units : ℤ) : Type 0 where
  pub size : ℕ
  pub rounded : IsRounded bits scale size
  pub in_range : size ≤ greatest_units
  pub same : units ≡ signed (is_negative bits) size

pub record IsTooGreatRounded (bits scale : ℕ) : Type 0 where
  pub size : ℕ
  pub rounded : IsRounded bits scale size
  pub great : greatest_units < size

-- when each fault comes to a double that is rounded
abbrev pub HasFaultRounded : ℕ → ℕ → Fault → Type 0
HasFaultRounded bits scale NotFinite = ¬ IsFinite bits
HasFaultRounded bits scale NotWhole = ⊥
HasFaultRounded bits scale OutOfRange = IsTooGreatRounded bits scale
