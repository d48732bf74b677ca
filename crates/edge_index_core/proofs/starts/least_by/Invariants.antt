use Rattle.std.proofs.Common.{◌≤◌, length}
use Rattle.edge_index_core.proofs.starts.least_by.Given as goal

abbrev pub invariant-loop-i : goal.invariant-loop-i
invariant-loop-i g l = l.place ≤ length l.edges
