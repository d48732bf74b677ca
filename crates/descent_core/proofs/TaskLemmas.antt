-- Pairs of references, and the nodes that they refer to.
use Rattle.std.proofs.Common.{◌≡◌, ℕ, ◌<◌, List, length, get_or, sym, ◌∙◌, ap, subst, Bor}
use Rattle.std.specs.Prelude.{All}
use Rattle.std.proofs.lemmas.List.{length-map, get_or-map}
use Rattle.rtree_core.specs.declared.node.Node.{Node}
use Rattle.descent_core.specs.Steps.{nodes, nodes_of}

-- a fact of each pair of nodes is a fact of that of a pair read from the list
pub task_at : (P : Node × Node → Type 0) (items : List (Bor Node × Bor Node)) (k : ℕ) (t : Bor Node × Bor Node) → All P (nodes_of items) →
    k < length items → t ≡ get_or items k t → P (nodes t)
task_at P items k t all lt at = subst P (get_or-map nodes items k t (nodes t) lt ∙ ap nodes (sym at)) (all k (nodes t) (rw length-map lt))

pub length_nodes : (items : List (Bor Node × Bor Node)) → length (nodes_of items) ≡ length items
length_nodes items = simp length-map
