use Rattle.std.proofs.Common.{◌≡◌, ◌++◌, take}
use Rattle.plane_core.specs.Figures.{edges}
use Rattle.plane_core.proofs.geometry.push_edges.Given as goal

abbrev pub invariant-loop-i : goal.invariant-loop-i
invariant-loop-i l = l.found.items ≡ l.fn.found.items ++ edges (take l.i l.path)
