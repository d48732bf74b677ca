-- Masks that fit the matrix of two geometries, and an upper bound of that matrix.
use Rattle.std.specs.Prelude.{List}
use Rattle.relation_core.specs.declared.mask.Mask.{Mask}
use Rattle.relation_core.specs.declared.matrix.Matrix.{Matrix}
use Rattle.relation_core.specs.Relations.{FitsOne}
use Rattle.decision_core.specs.Orders.{IsBelow}
use Rattle.plane_core.specs.Figures.{Figure, IsGeometry}
use Rattle.plane_core.specs.PlaneMatrices.{IsPlaneMatrix}

-- one of the masks fits the matrix of the two geometries
pub record FitMatrix (masks : List Mask) (g h : Figure) : Type 0 where
  pub matrix : Matrix
  pub is : IsPlaneMatrix g h matrix
  pub fits : FitsOne masks matrix

-- no entry of the matrix of the two geometries is above that of the bound
abbrev pub IsUpperBound : Figure → Figure → Matrix → Type 0
IsUpperBound g h bound =
    (m : Matrix) → IsGeometry g → IsGeometry h → IsPlaneMatrix g h m → IsBelow m bound
