use Rattle.std.proofs.Common.{take}
use Rattle.nearest_core.specs.Matches.{AreMatchesOf}
use Rattle.nearest_core.proofs.matches.matches_of.Given as goal

abbrev pub invariant-loop-number : goal.invariant-loop-number
invariant-loop-number g l =
    AreMatchesOf g.G.Square.Square.fraction g.G.Planar.has_point l.query l.right l.left.list (take l.number-index l.numbers) l.matches.items
