-- The squared distance of two shapes as a number.
use Rattle.std.proofs.Common.{◌≡◌, ℕ, ◌≤◌, arith, refl, subst, sym}
use Rattle.std.specs.Prelude.{◌≤ℤ◌}
use Rattle.std.proofs.lemmas.Int.{ints, clamps, by_lt_z}
use Rattle.std.proofs.lemmas.Nat.{mul-le}
use Rattle.std.proofs.Math.Nat.{le_of_mul-le-mul_right}
use Rattle.geom_core.specs.declared.span.Span.{Span}
use Rattle.geom_core.specs.declared.shape.Shape.{Shape}
use Rattle.geom_core.specs.Cells.{line, IsWithin, IsIn}
use Rattle.plane_core.specs.Points.{Point}
use Rattle.distance_core.specs.Distances.{scale_of, IsSquaredDistance}
use Rattle.distance_core.specs.ShapePoints.{HasPoint}
use Rattle.distance_core.specs.Gaps.{IsGap}
use Rattle.distance_core.proofs.AxisLemmas.{gap_above, gap_below, no_gap}
use Rattle.distance_core.proofs.SquareLemmas.{squared_distance_of, wide_scale}
use Rattle.nearest_core.specs.Squares.{span_gap, square_of}

no_span_gap : (a b : Span) → a.lo ≤ℤ b.hi → b.lo ≤ℤ a.hi → span_gap a b ≡ 0
no_span_gap a b h k = omega (arith, ints, clamps, h, k)

span_is_gap : (a b : Span) → IsGap a b (span_gap a b)
span_is_gap a b = by_lt_z a.hi b.lo
    (λ above. gap_above a b (span_gap a b) (omega (arith, ints, clamps, above)))
    (λ low. by_lt_z b.hi a.lo
    (λ below. gap_below a b (span_gap a b) (omega (arith, ints, clamps, below)))
    (λ high. subst (IsGap a b) (sym (no_span_gap a b high low)) (no_gap a b high low)))

square_is : (a b : Shape) → IsSquaredDistance (square_of a b) (HasPoint a) (HasPoint b)
unfolding square_of
square_is a b =
    squared_distance_of a b (span_gap a.x b.x) (span_gap a.y b.y) (span_is_gap a.x b.x) (span_is_gap a.y b.y) _ refl

-- no squared distance of two sets is greater than another
no_greater : (P Q : Point → Type 0) (m n : ℕ) → IsSquaredDistance m P Q → IsSquaredDistance n P Q → m ≤ n
no_greater P Q m n is other =
    let w = other.reached in
    let far = is.least w.first w.second w.first_wide w.second_wide w.first_in w.second_in in
    le_of_mul-le-mul_right {m = m} {n = n} {k = scale_of w.first w.second} (omega (arith, far, w.near))
    (wide_scale w.first w.second w.first_wide w.second_wide)

-- two shapes have one squared distance
pub only_square : (a b : Shape) (n : ℕ) → IsSquaredDistance n (HasPoint a) (HasPoint b) → n ≡ square_of a b
only_square a b n is =
    let up = no_greater (HasPoint a) (HasPoint b) n (square_of a b) is (square_is a b) in
    let down = no_greater (HasPoint a) (HasPoint b) (square_of a b) n (square_is a b) is in
    omega (arith, up, down)

pub square_from : (a b : Shape) (n : ℕ) → n ≡ square_of a b → IsSquaredDistance n (HasPoint a) (HasPoint b)
square_from a b n is = subst (λ m. IsSquaredDistance m (HasPoint a) (HasPoint b)) (sym is) (square_is a b)

-- an interval is no nearer than one that contains it
closer_span : (a b c : Span) → c.lo ≤ℤ b.lo → b.hi ≤ℤ c.hi → span_gap a c ≤ span_gap a b
closer_span a b c h k = omega (arith, ints, clamps, h, k)

low_in : (b c : Span) → IsWithin c (line b.lo) → c.lo ≤ℤ b.lo
low_in b c h = omega (arith, ints, h.0)

high_in : (b c : Span) → IsWithin c (line b.hi) → b.hi ≤ℤ c.hi
high_in b c h = omega (arith, ints, h.1)

holds_low : (b : Span) → IsWithin b (line b.lo)
holds_low b = (omega (arith, ints), omega (arith, ints, b.ordered))

holds_high : (b : Span) → IsWithin b (line b.hi)
holds_high b = (omega (arith, ints, b.ordered), omega (arith, ints))

-- a shape is no nearer than one that contains it
pub closer : (a b c : Shape) → IsIn b c → square_of a c ≤ square_of a b
unfolding square_of
closer a b c inside =
    let low = inside (line b.x.lo) (line b.y.lo) (holds_low b.x, holds_low b.y) in
    let high = inside (line b.x.hi) (line b.y.hi) (holds_high b.x, holds_high b.y) in
    let along_x = closer_span a.x b.x c.x (low_in b.x c.x low.0) (high_in b.x c.x high.0) in
    let along_y = closer_span a.y b.y c.y (low_in b.y c.y low.1) (high_in b.y c.y high.1) in
    let xs = mul-le _ _ _ _ along_x along_x in
    let ys = mul-le _ _ _ _ along_y along_y in
    omega (arith, xs, ys)
