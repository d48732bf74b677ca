-- The matrix of two shapes without a common cell, which depends only on their dimensions.
use Rattle.std.specs.Prelude.{ℕ, ◌==◌, if◌then◌else◌}
use Rattle.relation_core.specs.declared.extent.Extent.{Extent}
use Rattle.relation_core.specs.declared.extent.Extent.TheVariants.{Empty, Point, Line, Area}
use Rattle.relation_core.specs.declared.matrix.Matrix.{Matrix}
use Rattle.relation_core.specs.declared.relation.Relation.{Relation}
use Rattle.relation_core.specs.Relations.{FitsOne, masks}

-- the dimension of the interior of a shape of this dimension
abbrev pub interior_extent : ℕ → Extent
interior_extent dim = if dim == 0 then Point else (if dim == 1 then Line else Area)

-- the dimension of the boundary of a shape of this dimension
abbrev pub boundary_extent : ℕ → Extent
boundary_extent dim = if dim == 0 then Empty else (if dim == 1 then Point else Line)

abbrev pub disjoint_matrix : ℕ → ℕ → Matrix
disjoint_matrix da db = record {
  rows = record {
    interior = record { interior = Empty; boundary = Empty; exterior = interior_extent da };
    boundary = record { interior = Empty; boundary = Empty; exterior = boundary_extent da };
    exterior = record {
      interior = interior_extent db;
      boundary = boundary_extent db;
      exterior = Area;
    };
  };
}

-- one of the masks of a relation fits the matrix of disjoint shapes of these dimensions
abbrev pub FitsDisjoint : Relation → ℕ → ℕ → Type 0
FitsDisjoint relation da db = FitsOne (masks relation da db) (disjoint_matrix da db)
