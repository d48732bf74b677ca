-- The squared distance of two shapes as a number, by how far they are apart along each axis.
use Rattle.std.specs.Prelude.{ℕ, ◌+◌, ◌*◌, pos, ◌-ℤ◌, nat_abs}
use Rattle.std.specs.Int.{int_max}
use Rattle.geom_core.specs.declared.span.Span.{Span}
use Rattle.geom_core.specs.declared.shape.Shape.{Shape}

-- how far two intervals are apart
abbrev pub span_gap : Span → Span → ℕ
span_gap a b = nat_abs (int_max (pos 0) (int_max (b.lo -ℤ a.hi) (a.lo -ℤ b.hi)))

unfoldable pub square_of : Shape → Shape → ℕ
square_of a b = span_gap a.x b.x * span_gap a.x b.x + span_gap a.y b.y * span_gap a.y b.y
