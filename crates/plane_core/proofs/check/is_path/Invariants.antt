use Rattle.std.proofs.Common.{◌≡◌, take}
use Rattle.std.specs.List.{list_all}
use Rattle.plane_core.specs.Figures.{edges}
use Rattle.plane_core.specs.Checks.{has_length}
use Rattle.plane_core.proofs.check.is_path.Given as goal

abbrev pub invariant-loop-i : goal.invariant-loop-i
invariant-loop-i l = l.is_stepping ≡ list_all has_length (edges (take l.i l.path))
