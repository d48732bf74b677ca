use Rattle.std.proofs.Common.{◌≡◌, map, take, get_or}
use Rattle.plane_core.specs.declared.edge.Edge.{Edge}
use Rattle.edge_index_core.proofs.around.edges_at.Given as goal

abbrev pub invariant-loop-k : goal.invariant-loop-k
invariant-loop-k l = (d : Edge) → l.found.items ≡ map (λ k. get_or l.edges k d) (take l.k-index l.indexes)
