use Rattle.std.proofs.Common.{All, take}
use Rattle.edge_index_core.specs.Runs.{HoldsEdge}
use Rattle.edge_index_core.proofs.runs.bounds_of_run.Given as goal

abbrev pub invariant-loop-e : goal.invariant-loop-e
invariant-loop-e l = All (HoldsEdge l.bounds) (take l.e-index l.edges)
