use Rattle.std.proofs.Common.{◌≡◌, ◌++◌, flat_map, take, string_bytes}
use Rattle.plane_core.specs.Vertices.{paths_in}
use Rattle.draw_core.specs.Figures.{path_by}
use Rattle.draw_core.proofs.figure.push_paths.Given as goal

abbrev pub invariant-loop-i : goal.invariant-loop-i
invariant-loop-i l =
    string_bytes l.text ≡ string_bytes l.initial.text ++ flat_map (path_by l.frame l.dim) (take l.i (paths_in l.geometry))
