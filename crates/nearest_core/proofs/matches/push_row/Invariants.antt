use Rattle.std.proofs.Common.{◌≡◌, ◌++◌, map, take}
use Rattle.nearest_core.specs.Matches.{paired}
use Rattle.nearest_core.proofs.matches.push_row.Given as goal

abbrev pub invariant-loop-neighbour : goal.invariant-loop-neighbour
invariant-loop-neighbour g l =
    l.matches.items ≡ l.fn.matches.items ++ map (paired l.left) (take l.neighbour-index l.found)
