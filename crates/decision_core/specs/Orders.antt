-- The order of matrices by their entries.
use Rattle.std.specs.Prelude.{◌≤◌}
use Rattle.relation_core.specs.declared.extent.Extent.{Extent}
use Rattle.relation_core.specs.declared.part.Parts.{Parts}
use Rattle.relation_core.specs.declared.matrix.Matrix.{Matrix}
use Rattle.noding_core.specs.Marks.{rank}

-- each entry of a row is at most that of another
pub record IsRowBelow (low high : Parts Extent) : Type 0 where
  pub interior : rank low.interior ≤ rank high.interior
  pub boundary : rank low.boundary ≤ rank high.boundary
  pub exterior : rank low.exterior ≤ rank high.exterior

-- each entry of a matrix is at most that of another
pub record IsBelow (low high : Matrix) : Type 0 where
  pub interior : IsRowBelow low.rows.interior high.rows.interior
  pub boundary : IsRowBelow low.rows.boundary high.rows.boundary
  pub exterior : IsRowBelow low.rows.exterior high.rows.exterior

-- each entry of a matrix is between those of two others
pub record IsBetween (least greatest m : Matrix) : Type 0 where
  pub above : IsBelow least m
  pub below : IsBelow m greatest
