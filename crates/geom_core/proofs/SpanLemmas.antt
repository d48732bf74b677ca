-- Intervals that share a number, and the smallest interval that contains two.
use Rattle.std.proofs.Common.{arith}
use Rattle.std.specs.Prelude.{◌≡◌, ℕ, ◌≤◌, ◌*◌, ◌-ℤ◌, nat_abs, ℤ, ◌≤ℤ◌}
use Rattle.std.proofs.lemmas.Int.{ints, clamps, by_lt_z}
use Rattle.geom_core.specs.declared.span.Span.{Span}
use Rattle.geom_core.specs.Limits.{greatest_coordinate}
use Rattle.geom_core.specs.Cells.{line, IsWithin}
use Rattle.geom_core.specs.Shapes.{joined}

-- if neither interval ends before the other begins, the later start is in both
pub common_line : (a b : Span) → a.lo ≤ℤ b.hi → b.lo ≤ℤ a.hi → (u : ℤ) × IsWithin a u × IsWithin b u
common_line a b h k =
    by_lt_z a.lo b.lo
    (λ below. (line b.lo, (omega (arith, ints), omega (arith, ints)), (omega (arith, ints), omega (arith, ints))))
    (λ above. (line a.lo, (omega (arith, ints), omega (arith, ints)), (omega (arith, ints), omega (arith, ints))))

pub within_joined_first : (a b : Span) (u : ℤ) → IsWithin a u → IsWithin (joined a b) u
within_joined_first a b u h = (omega (arith, ints, clamps), omega (arith, ints, clamps))

pub within_joined_second : (a b : Span) (u : ℤ) → IsWithin b u → IsWithin (joined a b) u
within_joined_second a b u h = (omega (arith, ints, clamps), omega (arith, ints, clamps))

-- an interval that contains the ends of two others contains the numbers between them
pub within_joined_least : (a b s : Span) (u : ℤ) → s.lo ≤ℤ a.lo → s.lo ≤ℤ b.lo → a.hi ≤ℤ s.hi → b.hi ≤ℤ s.hi → IsWithin (joined a b) u → IsWithin s u
within_joined_least a b s u p q r t h = (omega (arith, ints, clamps), omega (arith, ints, clamps))

-- no interval is longer than the whole range
pub length_bound : (a : Span) → nat_abs (a.hi -ℤ a.lo) ≤ 2 * greatest_coordinate
length_bound a = omega (arith, ints)

pub length_held : (a : Span) (n : ℕ) → n ≡ nat_abs (a.hi -ℤ a.lo) → n ≤ 2 * greatest_coordinate
length_held a n e = rw e (length_bound a)

-- if a number is in two intervals, each begins no later than the other ends
pub common_order : (a b : Span) (u : ℤ) → IsWithin a u → IsWithin b u → a.lo ≤ℤ b.hi
common_order a b u h k = omega (arith, ints)

-- an interval that ends no further out is in the other
pub within_ends : (a b : Span) → b.lo ≤ℤ a.lo → a.hi ≤ℤ b.hi → (u : ℤ) → IsWithin a u → IsWithin b u
within_ends a b p q u h = (omega (arith, ints), omega (arith, ints))
