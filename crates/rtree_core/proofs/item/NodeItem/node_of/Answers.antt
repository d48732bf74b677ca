use Rattle.std.proofs.Common.{rules}
use Rattle.rtree_core.proofs.ItemLemmas.{cover_of_items, inner_made}
use Rattle.rtree_core.proofs.item.NodeItem.node_of.Goals as goal

pub returns-clause-node : goal.returns-clause-node
returns-clause-node c = inner_made _ c.args.page c.requires (search (rules, cover_of_items))
