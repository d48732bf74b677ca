use Rattle.std.proofs.Common.{◌≡◌, ◌++◌, codes, flat_map, take, string_bytes}
use Rattle.draw_core.specs.Figures.{moved_to}
use Rattle.draw_core.proofs.figure.push_steps.Given as goal

abbrev pub invariant-loop-vertex : goal.invariant-loop-vertex
invariant-loop-vertex l =
    string_bytes l.text ≡ string_bytes l.initial.text ++ flat_map (moved_to l.frame (codes "L")) (take l.vertex-index l.path)
