use Rattle.std.proofs.Common.{◌≡◌, ◌++◌, ◌<◌, ◌^◌, ℕ}
use Rattle.number_core.specs.CanonicalNumbers.{decimals}
use Rattle.number_core.specs.Scales.{digits_of}
use Rattle.near_run_core.proofs.amount.push_decimals.Given as goal

abbrev pub invariant-loop-rest : goal.invariant-loop-rest
invariant-loop-rest l = (k : ℕ) × (l.place ≡ 10 ^ k) × (l.rest < 10 ^ k)
    × (l.text.items ++ decimals k l.rest ≡ l.fn.text.items ++ decimals (digits_of l.fn.scale) l.units)

abbrev pub decreases-loop-rest : goal.decreases-loop-rest
decreases-loop-rest l = l.place
