use Rattle.std.proofs.Common.{◌+◌, ◌*◌, ◌≡◌, ℕ, ◌<◌, [], get_or, vec_capacity}
use Rattle.std.specs.Prelude.{Contains}
use Rattle.rtree_core.specs.declared.node.Node.{Node}
use Rattle.rtree_core.specs.Nodes.{entries_of, level_of}
use Rattle.rtree_core.specs.Items.{inner_node}
use Rattle.rtree_core.proofs.NodeLemmas.{top_level}
use Rattle.rtree_core.proofs.remove.+removal.Given as goal

abbrev pub decreases-take_out : goal.decreases-take_out
decreases-take_out l = 3 * level_of l.node.now + 2

abbrev pub decreases-take_from_inner : goal.decreases-take_from_inner
decreases-take_from_inner l = 3 * level_of (inner_node l.cover.now l.children.now) + 1

abbrev pub decreases-take_from_one : goal.decreases-take_from_one
decreases-take_from_one l = 3 * top_level l.nodes.now + 3

abbrev pub invariant-take_from_one-loop-place : goal.invariant-take_from_one-loop-place
invariant-take_from_one-loop-place l = record {
  same : l.nodes ≡ l.fn.nodes;
  none_aside : l.aside.items ≡ [];
  capacity : vec_capacity l.aside ≡ vec_capacity l.fn.aside;
  none : (k : ℕ) (d : Node) → k < l.place → Contains (entries_of (get_or l.fn.nodes k d)) l.entry → ⊥;
}
