-- The smallest shape that contains two, and the greatest area.
use Rattle.std.proofs.Common.{arith}
use Rattle.std.proofs.Math.Nat.{mul-le-mul}
use Rattle.std.specs.Prelude.{ℕ, ◌≤◌, ◌*◌, ◌≤ℤ◌}
use Rattle.std.proofs.lemmas.Int.{ints}
use Rattle.geom_core.specs.declared.shape.Shape.{Shape}
use Rattle.geom_core.specs.Cells.{line, Covers, IsIn}
use Rattle.geom_core.specs.Limits.{greatest_coordinate, greatest_area}
use Rattle.geom_core.specs.Shapes.{cover_of}
use Rattle.geom_core.proofs.SpanLemmas.{within_joined_first, within_joined_second, within_joined_least}

pub in_cover_first : (a b : Shape) → IsIn a (cover_of a b)
in_cover_first a b u v h = (within_joined_first a.x b.x u h.0, within_joined_first a.y b.y v h.1)

pub in_cover_second : (a b : Shape) → IsIn b (cover_of a b)
in_cover_second a b u v h = (within_joined_second a.x b.x u h.0, within_joined_second a.y b.y v h.1)

-- a shape that contains another extends from before its first corner to after its second
record Reaches (s a : Shape) : Type 0 where
  from_x : s.x.lo ≤ℤ a.x.lo
  to_x : a.x.hi ≤ℤ s.x.hi
  from_y : s.y.lo ≤ℤ a.y.lo
  to_y : a.y.hi ≤ℤ s.y.hi

reaches : (a s : Shape) → IsIn a s → Reaches s a
reaches a s h =
    let low : Covers s (line a.x.lo) (line a.y.lo) =
    h (line a.x.lo) (line a.y.lo) ((omega (arith, ints), omega (arith, ints)), (omega (arith, ints), omega (arith, ints))) in
    let high : Covers s (line a.x.hi) (line a.y.hi) =
    h (line a.x.hi) (line a.y.hi) ((omega (arith, ints), omega (arith, ints)), (omega (arith, ints), omega (arith, ints))) in
    record { from_x = omega (arith, ints); to_x = omega (arith, ints); from_y = omega (arith, ints); to_y = omega (arith, ints) }

pub cover_least : (a b s : Shape) → IsIn a s → IsIn b s → IsIn (cover_of a b) s
cover_least a b s h k u v w =
    let p = reaches a s h in
    let q = reaches b s k in (
      within_joined_least a.x b.x s.x u p.from_x q.from_x p.to_x q.to_x w.0,
      within_joined_least a.y b.y s.y v p.from_y q.from_y p.to_y q.to_y w.1,
    )

pub area_bound : (m n : ℕ) → m ≤ 2 * greatest_coordinate → n ≤ 2 * greatest_coordinate → m * n ≤ greatest_area
area_bound m n h k = mul-le-mul h k
