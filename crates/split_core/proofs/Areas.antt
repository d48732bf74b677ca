-- The area of a cover, and the differences of areas.
use Rattle.std.proofs.Common.{arith, ◌≡◌, ℕ, ◌≤◌, ◌-◌}
use Rattle.std.proofs.Math.Nat.{mul-le-mul}
use Rattle.std.specs.Prelude.{pos, ◌-ℤ◌, nat_abs}
use Rattle.std.proofs.lemmas.Int.{ints, clamps}
use Rattle.geom_core.specs.declared.span.Span.{Span}
use Rattle.geom_core.specs.declared.shape.Shape.{Shape}
use Rattle.geom_core.specs.Shapes.{area_of, cover_of, joined}
use Rattle.split_core.specs.Choices.{enlargement, waste}

length_grows : (a b : Span) → nat_abs (a.hi -ℤ a.lo) ≤ nat_abs ((joined a b).hi -ℤ (joined a b).lo)
length_grows a b = omega (arith, ints, clamps, a.ordered, b.ordered)

-- the cover of two shapes is no smaller than the first
pub area_grows : (a b : Shape) → area_of a ≤ area_of (cover_of a b)
area_grows a b = mul-le-mul (length_grows a.x b.x) (length_grows a.y b.y)

-- a difference that does not go below 0 is the same over the whole numbers
pos-minus : (m n : ℕ) → n ≤ m → pos (m - n) ≡ pos m -ℤ pos n
pos-minus m n h = omega (arith, ints)

-- the waste of two shapes is the enlargement of the first by the second, minus the area of the
-- second
pub waste_is : (a b : Shape) (e m : ℕ) → e ≡ enlargement a b → m ≡ area_of b → pos e -ℤ pos m ≡ waste a b
waste_is a b e m h k = rw (h, k, pos-minus (area_of (cover_of a b)) (area_of a) (area_grows a b))
