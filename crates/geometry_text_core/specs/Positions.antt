-- Where a point of two doubles is at a scale.
use Rattle.std.specs.Prelude.{ℕ, ℤ, List, Option, Some, None, pos, ⊤}
use Rattle.double_core.specs.Units.{IsReadAs, IsRoundedTo}
use Rattle.number_core.specs.declared.scale.Rounding.{Rounding}
use Rattle.number_core.specs.declared.scale.Rounding.TheVariants.{Exact, Nearest}
use Rattle.number_core.specs.declared.scale.Scale.{Scale}
use Rattle.number_core.specs.Scales.{digits_of, rounding_of, IsInRange}
use Rattle.plane_core.specs.declared.vertex.Vertex.{Vertex}
use Rattle.wkt_core.specs.declared.position.Position.{Position}
use Rattle.wkt_core.specs.ListSteps.{Step}
use Rattle.wkt_any_core.specs.Drawing.{position_of}
use Rattle.geometry_text_core.specs.declared.order.Order.{Order}
use Rattle.geometry_text_core.specs.Binary.{TakesDouble}

-- the units that a double is by its shortest decimal, whole or rounded
abbrev pub IsUnitsBy : Rounding → ℕ → ℕ → ℤ → Type 0
IsUnitsBy Exact digits bits z = IsReadAs bits digits z
IsUnitsBy Nearest digits bits z = IsRoundedTo bits digits z

abbrev pub IsUnits : Scale → ℕ → ℤ → Type 0
IsUnits scale bits z = IsUnitsBy (rounding_of scale) (digits_of scale) bits z

-- two doubles are at a position, by units that are in range
pub record IsAt (scale : Scale) (x y : ℕ) (p : Position) : Type 0 where
  pub x_units : IsUnits scale x p.x
  pub y_units : IsUnits scale y p.y
  pub x_in_range : IsInRange scale p.x
  pub y_in_range : IsInRange scale p.y

-- the position of two doubles, if they have one
abbrev pub IsPosition : Scale → ℕ → ℕ → Option Position → Type 0
IsPosition scale x y (Some p) = IsAt scale x y p
IsPosition scale x y None = (p : Position) → ¬ (IsAt scale x y p)

-- the position of two doubles at the start of bytes
abbrev pub TakesPosition : Scale → Order → Step (Option Position)
TakesPosition scale order bytes p rest =
    (x : ℕ) × (y : ℕ) × (m : List ℕ) × TakesDouble order bytes x m × TakesDouble order m y rest
    × IsPosition scale x y p

-- a point that has a position, and that position
abbrev pub HasPosition : Option Position → Type 0
HasPosition (Some p) = ⊤
HasPosition None = ⊥

abbrev pub the_position : Option Position → Position
the_position (Some p) = p
the_position None = record { x = pos 0; y = pos 0 }

-- the position of a vertex, if there is one
abbrev pub position_at : Option Vertex → Option Position
position_at (Some v) = Some (position_of v)
position_at None = None
