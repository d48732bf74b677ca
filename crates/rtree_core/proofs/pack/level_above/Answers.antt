use Rattle.std.proofs.Common.{rules}
use Rattle.rtree_core.proofs.PackLemmas.{above_made, above_tiled}
use Rattle.rtree_core.proofs.pack.level_above.Goals as goal

pub returns-clause-nodes : goal.returns-clause-nodes
returns-clause-nodes c = above_made c.args.nodes.len c.args.nodes.items c.deref_mut.result.now c.tile.new.items _ c.deref_mut.ensures.value c.deref_mut.ensures.len c.tile.ensures.items (search rules)

pub returns-clause-tiles : goal.returns-clause-tiles
returns-clause-tiles c = above_tiled c.args.nodes.len c.args.nodes.items c.deref_mut.result.now c.tile.new.items _ c.deref_mut.ensures.value c.deref_mut.ensures.len c.tile.ensures.items c.tile.ensures.order (search rules)
