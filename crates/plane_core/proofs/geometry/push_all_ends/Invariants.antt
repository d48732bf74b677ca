use Rattle.std.proofs.Common.{◌≡◌, ◌++◌, drop, length}
use Rattle.std.specs.List.{flat_map}
use Rattle.plane_core.specs.Outlines.{path_ends}
use Rattle.plane_core.specs.Stored.{paths_of, AreCuts}
use Rattle.plane_core.proofs.geometry.push_all_ends.Given as goal

abbrev pub invariant-loop-end : goal.invariant-loop-end
invariant-loop-end l = record {
  cuts : AreCuts l.start (drop l.end-index l.ends) (length l.vertices);
  rest : l.fn.found.items ++ flat_map path_ends (paths_of 0 l.ends l.vertices)
      ≡ l.found.items ++ flat_map path_ends (paths_of l.start (drop l.end-index l.ends) l.vertices);
}
