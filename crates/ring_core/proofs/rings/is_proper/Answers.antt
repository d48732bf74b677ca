use Rattle.edge_index_core.proofs.EntryLemmas.{tree_holds}
use Rattle.ring_core.proofs.rings.is_proper.Goals as goal

pub are_near_proper-requires : goal.are_near_proper-requires
are_near_proper-requires c = tree_holds c.args.edges.now _ _ c.in_ok-entries_of.ensures.entries c.in_ok-tree.ensures.entries
