-- Numbers that are whole and in range, as they are read.
use Rattle.std.proofs.Common.{◌≡◌, ℕ, ◌≤◌, Bool, true, false, cond, Some, None, refl, arith}
use Rattle.std.specs.Prelude.{ℤ, nat_le, is_some}
use Rattle.std.proofs.lemmas.Bool.Decides.{nat_tests}
use Rattle.std.proofs.lemmas.Int.{ints}
use Rattle.geom_core.specs.Shapes.{IsCoordinate, greatest_coordinate}
use Rattle.number_core.specs.declared.limits.Limits.{Limits}
use Rattle.number_core.specs.declared.limits.Limits.TheVariants.{Boxes, Any}
use Rattle.number_core.specs.declared.scale.Scale.{Scale}
use Rattle.number_core.specs.ScaleLimits.{greatest_units}
use Rattle.number_core.specs.Scales.{limits_of, IsInRange}
use Rattle.number_core.specs.Numbers.{Numeral}
use Rattle.number_core.specs.Values.{signed, units, value}
use Rattle.number_core.specs.NumberSteps.{coordinate_read, number_read}

in_range : (scale : Scale) (negative : Bool) (n : ℕ) → n ≤ greatest_units (limits_of scale) → IsInRange scale (signed negative n)
in_range scale true n h = (omega (arith, ints), omega (arith, ints))
in_range scale false n h = (omega (arith, ints), omega (arith, ints))

range_in : (scale : Scale) (negative : Bool) (n : ℕ) → IsInRange scale (signed negative n) → n ≤ greatest_units (limits_of scale)
range_in scale true n h = omega (arith, ints)
range_in scale false n h = omega (arith, ints)

-- no limit is beyond the plane
units_few : (limits : Limits) → greatest_units limits ≤ greatest_coordinate
units_few Boxes = omega arith
units_few Any = omega arith

-- a number in range is a coordinate of the plane
pub in_plane : (scale : Scale) (z : ℤ) → IsInRange scale z → IsCoordinate z
in_plane scale z h = let few = units_few (limits_of scale) in (omega (arith, ints, h.0, few), omega (arith, ints, h.1, few))

some_if : (b : Bool) (z : ℤ) → is_some (cond b (Some z) None) ≡ true → b ≡ true
some_if true z h = refl
some_if false z h = h

module _ (scale : Scale) where
  -- the number of its units is at most this, where it was in range
  pub units_in_range : (most : ℕ) (n : Numeral) → is_some (number_read most scale n).value ≡ true → units scale n ≤ most
  units_in_range most n h =
      let test = some_if _ _ h in
      grind (arith, nat_tests)

  pub in_range_units : (most : ℕ) (n : Numeral) → units scale n ≤ most → is_some (number_read most scale n).value ≡ true
  in_range_units most n small =
      let test : nat_le (units scale n) most ≡ true = grind (arith, nat_tests) in
      rw test refl

  pub value_in_range : (n : Numeral) → is_some (coordinate_read scale n).value ≡ true → IsInRange scale (value scale n)
  value_in_range n h = in_range scale n.negative (units scale n) (units_in_range (greatest_units (limits_of scale)) n h)

  pub in_range_value : (n : Numeral) → IsInRange scale (value scale n) → is_some (coordinate_read scale n).value ≡ true
  in_range_value n h = in_range_units (greatest_units (limits_of scale)) n (range_in scale n.negative (units scale n) h)
