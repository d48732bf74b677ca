use Rattle.rtree_core.specs.Trees.{entries_in}
use Rattle.edge_index_core.proofs.AroundLemmas.{numbers_within, found_around}
use Rattle.edge_index_core.proofs.around.find_around.Goals as goal

pub edges_at-requires : goal.edges_at-requires
edges_at-requires c = rw c.deref.ensures.value (numbers_within c.args.bounds.now c.args.edges.now (entries_in c.args.tree.now) _ c.requires c.in_ok-indexes.ensures.met)

pub returns : goal.returns
returns c = found_around c.args.bounds.now c.args.edges.now (entries_in c.args.tree.now) _ _ c.requires c.in_ok-indexes.ensures.met c.in_ok-indexes.ensures.all (rw c.deref.ensures.value at c.edges_at.ensures)
