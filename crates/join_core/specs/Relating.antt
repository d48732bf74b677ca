-- The results of relating two texts.
use Rattle.std.specs.Prelude.{◌≡◌, ⊤, ℕ, List, [], ◌∷◌, ◌++◌, Result, Ok, Err}
use Rattle.geom_core.specs.declared.shape.Shape.{Shape}
use Rattle.relation_core.specs.declared.matrix.Matrix.{Matrix}
use Rattle.relation_core.specs.Matrices.{IsMatrix, letters_of}
use Rattle.wkt_core.specs.declared.fault.WktFault.{WktFault}
use Rattle.number_core.specs.declared.scale.Scale.{Scale}
use Rattle.wkt_core.specs.Readings.{Reads}
use Rattle.run_core.specs.declared.fault.Input.{Input}
use Rattle.run_core.specs.declared.fault.Input.TheVariants.{First, Second}
use Rattle.run_core.specs.declared.fault.RunFault.{RunFault}
use Rattle.run_core.specs.declared.fault.RunFault.TheVariants.{Wkt}

-- the letters of the matrix of the shapes that the two texts spell, and a line feed
pub record IsMatrixLine (scale : Scale) (a b line : List ℕ) : Type 0 where
  pub first : Shape
  pub second : Shape
  pub matrix : Matrix
  pub first_read : Reads scale a (Ok first)
  pub second_read : Reads scale b (Ok second)
  pub related : IsMatrix first second matrix
  pub letters : line ≡ letters_of matrix ++ 10 ∷ []

-- the first text that spells no shape, and its fault
abbrev pub HasFirstFault : Scale → List ℕ → List ℕ → Input → WktFault → Type 0
HasFirstFault scale a b First fault = Reads scale a (Err fault)
HasFirstFault scale a b Second fault =
    ((s : Shape) × Reads scale a (Ok s)) × Reads scale b (Err fault)
HasFirstFault scale a b _ fault = ⊥

-- the matrix of two texts, or the fault of the first text that spells none
abbrev pub RelateGives : Scale → List ℕ → List ℕ → Result (List ℕ) RunFault → Type 0
RelateGives scale a b (Ok line) = IsMatrixLine scale a b line
RelateGives scale a b (Err (Wkt input fault)) = HasFirstFault scale a b input fault
RelateGives scale a b (Err _) = ⊥

-- a possible fault of relating two texts, except that of its sink
abbrev pub IsTextFault : RunFault → Type 0
IsTextFault (Wkt First fault) = ⊤
IsTextFault (Wkt Second fault) = ⊤
IsTextFault _ = ⊥
