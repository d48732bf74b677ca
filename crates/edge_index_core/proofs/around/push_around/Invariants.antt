use Rattle.std.proofs.Common.{take}
use Rattle.edge_index_core.specs.Around.{AddsAround}
use Rattle.edge_index_core.proofs.around.push_around.Given as goal

abbrev pub invariant-loop-e : goal.invariant-loop-e
invariant-loop-e l = AddsAround l.bounds (take l.e-index l.edges) l.fn.near.items l.near.items
