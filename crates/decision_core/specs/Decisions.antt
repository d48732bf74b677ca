-- What masks require of a matrix between two others.
use Rattle.std.specs.Prelude.{◌≢◌, ◌⊎◌, ⊤, ◌≤◌, List, [], ◌∷◌}
use Rattle.relation_core.specs.declared.extent.Extent.{Extent}
use Rattle.relation_core.specs.declared.extent.Extent.TheVariants.{Empty}
use Rattle.relation_core.specs.declared.part.Parts.{Parts}
use Rattle.relation_core.specs.declared.matrix.Matrix.{Matrix}
use Rattle.relation_core.specs.declared.pattern_value.PatternValue.{PatternValue}
use Rattle.relation_core.specs.declared.pattern_value.PatternValue.TheVariants.{Any, NotEmpty}
use Rattle.relation_core.specs.declared.pattern_value.PatternValue.TheVariants.{Exactly}
use Rattle.relation_core.specs.declared.mask.Mask.{Mask}
use Rattle.relation_core.specs.Masks.{Fits}
use Rattle.relation_core.specs.Relations.{FitsOne}
use Rattle.noding_core.specs.Marks.{rank}
use Rattle.decision_core.specs.Orders.{IsBetween}

-- one of the masks fits each matrix between two
abbrev pub FitsEach : List Mask → Matrix → Matrix → Type 0
FitsEach masks least greatest =
    (m : Matrix) → IsBetween least greatest m → FitsOne masks m

-- none of the masks fits any matrix between two
abbrev pub FitsNone : List Mask → Matrix → Matrix → Type 0
FitsNone masks least greatest =
    (m : Matrix) → IsBetween least greatest m → ¬ (FitsOne masks m)

-- some mask of the list satisfies the condition
abbrev pub SomeMask : (Mask → Type 0) → List Mask → Type 0
SomeMask P [] = ⊥
SomeMask P (m ∷ ms) = P m ⊎ SomeMask P ms

-- the mask fits both matrices
pub record FitsBoth (least greatest : Matrix) (mask : Mask) : Type 0 where
  pub first : Fits mask least
  pub last : Fits mask greatest

-- the value allows some extent between two, of which the first is at most the second
abbrev pub AllowsSome : Extent → Extent → PatternValue → Type 0
AllowsSome least greatest Any = ⊤
AllowsSome least greatest NotEmpty = greatest ≢ Empty
AllowsSome least greatest (Exactly wanted) =
    (rank least ≤ rank wanted) × (rank wanted ≤ rank greatest)

-- each value of a row allows some extent between those of two rows
pub record AllowsSomeRow (least greatest : Parts Extent) (row : Parts PatternValue)
    : Type 0 where
  pub interior : AllowsSome least.interior greatest.interior row.interior
  pub boundary : AllowsSome least.boundary greatest.boundary row.boundary
  pub exterior : AllowsSome least.exterior greatest.exterior row.exterior

-- each of the nine values of the mask allows some extent between those of two matrices
pub record FitsSome (least greatest : Matrix) (mask : Mask) : Type 0 where
  pub interior : AllowsSomeRow least.rows.interior greatest.rows.interior mask.rows.interior
  pub boundary : AllowsSomeRow least.rows.boundary greatest.rows.boundary mask.rows.boundary
  pub exterior : AllowsSomeRow least.rows.exterior greatest.rows.exterior mask.rows.exterior
