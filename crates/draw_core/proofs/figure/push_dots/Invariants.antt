use Rattle.std.proofs.Common.{◌≡◌, ◌++◌, flat_map, take, string_bytes}
use Rattle.draw_core.specs.Figures.{dot}
use Rattle.draw_core.proofs.figure.push_dots.Given as goal

abbrev pub invariant-loop-vertex : goal.invariant-loop-vertex
invariant-loop-vertex l = string_bytes l.text ≡ string_bytes l.initial.text ++ flat_map (dot l.frame) (take l.vertex-index l.points)
