use Rattle.std.proofs.Common.{rules}
use Rattle.rtree_core.proofs.ItemLemmas.{cover_of_items, leaf_made}
use Rattle.rtree_core.proofs.item.EntryItem.node_of.Goals as goal

pub returns-clause-node : goal.returns-clause-node
returns-clause-node c = leaf_made _ c.args.page c.requires (search (rules, cover_of_items))
