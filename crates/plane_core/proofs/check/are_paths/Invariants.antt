use Rattle.std.proofs.Common.{◌≡◌, drop, length}
use Rattle.std.specs.Prelude.{◌&&◌}
use Rattle.std.specs.List.{list_all}
use Rattle.plane_core.specs.Checks.{is_path}
use Rattle.plane_core.specs.Stored.{paths_of, AreCuts}
use Rattle.plane_core.proofs.check.are_paths.Given as goal

abbrev pub invariant-loop-end : goal.invariant-loop-end
invariant-loop-end l = record {
  cuts : AreCuts l.start (drop l.end-index l.ends) (length l.vertices);
  rest : list_all is_path (paths_of 0 l.ends l.vertices)
      ≡ (l.are_right && list_all is_path (paths_of l.start (drop l.end-index l.ends) l.vertices));
}
