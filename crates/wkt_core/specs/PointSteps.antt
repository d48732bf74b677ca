-- The reader of a point: what it reads at the start of a text, and what remains.
use Rattle.std.specs.Prelude.{◌&&◌, ℕ, ℤ, List, Option, Some, None, option_and_then}
use Rattle.number_core.specs.declared.number.ReadNumber.{ReadNumber}
use Rattle.wkt_core.specs.declared.position.Position.{Position}
use Rattle.wkt_core.specs.declared.position.ReadPoint.{ReadPoint}
use Rattle.number_core.specs.declared.scale.Scale.{Scale}
use Rattle.wkt_core.specs.Grammar.{RawPoint}
use Rattle.wkt_core.specs.TokenSteps.{gap_at}
use Rattle.number_core.specs.NumberSteps.{number_at, coordinate_read}

infixl 10 ◌>>=◌
abbrev pub ◌>>=◌ : {A B : Type 0} → Option A → (A → Option B) → Option B
o >>= f = option_and_then f o

-- two numbers with white space between them
abbrev pub point_at : Scale → List ℕ → Option (RawPoint × List ℕ)
point_at scale text =
    number_at scale text >>= λ x.
    gap_at x.1 >>= λ rest.
    number_at scale rest >>= λ y.
    Some (record { x = x.0; y = y.0 }, y.1)

-- the position with both coordinates
abbrev pub position_from : Option ℤ → Option ℤ → Option Position
position_from (Some x) (Some y) = Some (record { x = x; y = y })
position_from (Some x) None = None
position_from None y = None

-- the result of reading a point, from those of its numbers
abbrev pub point_from : ReadNumber → ReadNumber → ReadPoint
point_from x y = record { position = position_from x.value y.value; whole = x.whole && y.whole }

abbrev pub point_read : Scale → RawPoint → ReadPoint
point_read scale p = point_from (coordinate_read scale p.x) (coordinate_read scale p.y)

abbrev pub point_answer : Scale → Option (RawPoint × List ℕ) → Option (ReadPoint × List ℕ)
point_answer scale None = None
point_answer scale (Some p) = Some (point_read scale p.0, p.1)
