-- The letters of the matrices of shapes, by their meetings along the axes.
use Rattle.std.specs.Prelude.{◌≡◌, ℕ, List, IsSomeAnd, slice_get}
use Rattle.relation_core.specs.declared.matrix.Matrix.{Matrix}
use Rattle.relation_core.specs.declared.meeting.Meeting.{Meeting}
use Rattle.relation_core.specs.declared.meeting.Meeting.TheVariants.{Disjoint, Meet, Overlap}
use Rattle.relation_core.specs.declared.meeting.Meeting.TheVariants.{Inside, CoveredBy, Contains}
use Rattle.relation_core.specs.declared.meeting.Meeting.TheVariants.{Covers, Equal}
use Rattle.relation_core.specs.declared.meeting.Meeting.TheVariants.{PointDisjoint, PointAtEnd}
use Rattle.relation_core.specs.declared.meeting.Meeting.TheVariants.{PointInside, DisjointPoint}
use Rattle.relation_core.specs.declared.meeting.Meeting.TheVariants.{EndAtPoint, ContainsPoint}
use Rattle.relation_core.specs.declared.meeting.Meeting.TheVariants.{PointsDisjoint, PointsEqual}
use Rattle.geom_core.specs.declared.shape.Shape.{Shape}
use Rattle.relation_core.specs.declared.letters.NineLetters.{NineLetters}
use Rattle.relation_core.specs.declared.letters.LetterRow.{LetterRow}
use Rattle.relation_core.specs.Axes.{matrix_by}
use Rattle.relation_core.specs.Matrices.{IsMatrix, letters_of}

-- the letters of the matrix of two shapes
pub record AreLetters (a b : Shape) (letters : List ℕ) : Type 0 where
  pub matrix : Matrix
  pub is : IsMatrix a b matrix
  pub written : letters ≡ letters_of matrix

-- the index of a meeting
abbrev pub place_of : Meeting → ℕ
place_of Disjoint = 0
place_of Meet = 1
place_of Overlap = 2
place_of Inside = 3
place_of CoveredBy = 4
place_of Contains = 5
place_of Covers = 6
place_of Equal = 7
place_of PointDisjoint = 8
place_of PointAtEnd = 9
place_of PointInside = 10
place_of DisjointPoint = 11
place_of EndAtPoint = 12
place_of ContainsPoint = 13
place_of PointsDisjoint = 14
place_of PointsEqual = 15

-- these are the letters for each meeting along the second axis
abbrev pub AreColumns : Meeting → List NineLetters → Type 0
AreColumns x columns = (y : Meeting) →
    IsSomeAnd (slice_get columns (place_of y)) (λ c. c.letters ≡ letters_of (matrix_by x y))

-- the same, as a row
pub record IsLetterRow (x : Meeting) (row : LetterRow) : Type 0 where
  pub columns : AreColumns x row.columns

-- the table has the row of each meeting along the first axis
abbrev pub IsLetterTable : List LetterRow → Type 0
IsLetterTable table = (x : Meeting) → IsSomeAnd (slice_get table (place_of x)) (IsLetterRow x)
