use Rattle.std.proofs.Common.{◌≤◌, length}
use Rattle.arrangement_core.proofs.rounds.lowest.Given as goal

abbrev pub invariant-loop-i : goal.invariant-loop-i
invariant-loop-i l = l.place ≤ length l.edges
