-- The report of pairs of features.
use Rattle.std.specs.Prelude.{◌≡◌, ℕ, List, [], ◌∷◌, ◌++◌, Option, Some, None, IsSome, codes}
use Rattle.std.specs.List.{AllZip}
use Rattle.relation_core.specs.declared.matrix.Matrix.{Matrix}
use Rattle.relation_core.specs.Matrices.{letters_of}
use Rattle.layer_core.specs.Layers.{Feature, Contents, with_number}
use Rattle.report_core.specs.CsvTexts.{csv_text}

-- the layers hold features with these numbers
abbrev pub IsHeld : {G : Type 0} → Contents G → Contents G → ℕ × ℕ → Type 0
IsHeld left right pair = IsSome (with_number pair.0 left) × IsSome (with_number pair.1 right)

-- the fields after the ids: one for the geometries in a report whose last column has a name, and
-- none in a report of ids alone
abbrev pub AreMore : {G : Type 0} → Option (List ℕ) → (G → G → List ℕ → Type 0) → G → G
    → List (List ℕ) → Type 0
AreMore None is_field g h more = more ≡ []
AreMore (Some name) is_field g h more =
    (field : List ℕ) × is_field g h field × (more ≡ field ∷ [])

-- the record of a pair: the ids of its features, and the fields after them
pub record IsRow {G : Type 0} (name : Option (List ℕ)) (is_field : G → G → List ℕ → Type 0)
    (left right : Contents G) (pair : ℕ × ℕ) (row : List (List ℕ)) : Type 0 where
  pub first : Feature G
  pub second : Feature G
  pub more : List (List ℕ)
  pub first_held : with_number pair.0 left ≡ Some first
  pub second_held : with_number pair.1 right ≡ Some second
  pub correct : AreMore name is_field first.shape second.shape more
  pub fields : row ≡ first.id ∷ second.id ∷ more

-- the header of a report whose last column has this name, or of a report of ids alone
abbrev pub header : Option (List ℕ) → List (List ℕ)
header None = codes "left" ∷ codes "right" ∷ []
header (Some name) = codes "left" ∷ codes "right" ∷ name ∷ []

-- these records, and then one for each item in order
pub record HasRecords {A : Type 0} (IsRecord : A → List (List ℕ) → Type 0)
    (first : List (List (List ℕ))) (items : List A) (text : List ℕ) : Type 0 where
  pub rows : List (List (List ℕ))
  pub are_rows : AllZip IsRecord items rows
  pub written : text ≡ csv_text (first ++ rows)

-- the header, and one record for each pair in order; the name of the last column, if there is one,
-- and which fields two geometries have in it, are parameters
abbrev pub IsReportBy : {G : Type 0} → Option (List ℕ) → (G → G → List ℕ → Type 0) → Contents G
    → Contents G → List (ℕ × ℕ) → List ℕ → Type 0
IsReportBy name is_field left right pairs text =
    HasRecords (IsRow name is_field left right) (header name ∷ []) pairs text

-- two geometries have no field
abbrev pub IsNoField : {G : Type 0} → G → G → List ℕ → Type 0
IsNoField g h field = ⊥

-- the report of ids alone
abbrev pub IsPairReport : {G : Type 0} → Contents G → Contents G → List (ℕ × ℕ) → List ℕ → Type 0
IsPairReport = IsReportBy None IsNoField

-- ---- the report with matrices

-- the letters of the matrix of two geometries; which matrix they have is a parameter
abbrev pub AreLettersBy : {G : Type 0} → (G → G → Matrix → Type 0) → G → G → List ℕ → Type 0
AreLettersBy is_matrix g h letters =
    (matrix : Matrix) × is_matrix g h matrix × (letters ≡ letters_of matrix)

-- the report whose last column has these letters
abbrev pub IsReport : {G : Type 0} → (G → G → Matrix → Type 0) → Contents G → Contents G
    → List (ℕ × ℕ) → List ℕ → Type 0
IsReport is_matrix = IsReportBy (Some (codes "matrix")) (AreLettersBy is_matrix)

-- the layers hold features with these numbers, and this is the matrix of their geometries
pub record HasMatrix {G : Type 0} (is_matrix : G → G → Matrix → Type 0) (left right : Contents G)
    (pair : ℕ × ℕ) (matrix : Matrix) : Type 0 where
  pub first : Feature G
  pub second : Feature G
  pub first_held : with_number pair.0 left ≡ Some first
  pub second_held : with_number pair.1 right ≡ Some second
  pub related : is_matrix first.shape second.shape matrix

-- the letters of the matrix of the geometries of two features
pub record HasLetters {G : Type 0} (is_matrix : G → G → Matrix → Type 0) (left right : Contents G)
    (pair : ℕ × ℕ) (letters : List ℕ) : Type 0 where
  pub matrix : Matrix
  pub has_matrix : HasMatrix is_matrix left right pair matrix
  pub written : letters ≡ letters_of matrix
