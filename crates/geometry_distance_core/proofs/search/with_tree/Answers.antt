use Rattle.rtree_core.specs.Nodes.{entries_of}
use Rattle.edge_index_core.proofs.TreeLemmas.{all_in}
use Rattle.geometry_distance_core.proofs.SearchLemmas.{tree_added}
use Rattle.geometry_distance_core.proofs.search.with_tree.Goals as goal

pub with_node-requires-clause-entries : goal.with_node-requires-clause-entries
with_node-requires-clause-entries c = all_in c.args.fs.now (entries_of c.args.root.now) c.requires.tree.holds

pub returns : goal.returns
returns c = tree_added c.args.e.now c.args.fs.now (entries_of c.args.root.now) _ _ c.requires.tree.holds c.with_node.ensures
