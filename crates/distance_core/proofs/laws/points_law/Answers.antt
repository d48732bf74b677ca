use Rattle.distance_core.proofs.CellLemmas.{points_of_cells, points_of_figure}
use Rattle.distance_core.proofs.laws.points_law.Goals as goal

pub returns-clause-cells : goal.returns-clause-cells
returns-clause-cells c = points_of_cells

pub returns-clause-figure : goal.returns-clause-figure
returns-clause-figure c = points_of_figure
