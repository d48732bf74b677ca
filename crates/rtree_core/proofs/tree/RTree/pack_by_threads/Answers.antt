use Rattle.std.proofs.Common.{rules}
use Rattle.rtree_core.proofs.HeightLemmas.{packed_height}
use Rattle.rtree_core.proofs.PackLemmas.{list_distinct, list_tiled, tree_same, tree_packed}
use Rattle.rtree_core.proofs.tree.RTree.pack_by_threads.Goals as goal

pub from_pages-requires-clause-distinct : goal.from_pages-requires-clause-distinct
from_pages-requires-clause-distinct g c = search (rules, list_distinct)

pub returns-clause-entries : goal.returns-clause-entries
returns-clause-entries g c = tree_same c.args.entries.len c.args.entries.items c.deref_mut.result.now c.tile_by_threads.new.items _ c.deref_mut.ensures.value c.deref_mut.ensures.len c.tile_by_threads.ensures.items (search rules)

pub returns-clause-packing : goal.returns-clause-packing
returns-clause-packing g c = tree_packed c.args.entries.len c.args.entries.items c.deref_mut.result.now c.tile_by_threads.new.items _ c.deref_mut.ensures.value c.deref_mut.ensures.len c.tile_by_threads.ensures.items (search rules)

pub returns-clause-height : goal.returns-clause-height
returns-clause-height g c = packed_height _ _ (returns-clause-entries g c) (returns-clause-packing g c)

pub from_pages-requires-clause-order : goal.from_pages-requires-clause-order
from_pages-requires-clause-order g c =
    list_tiled (λ e. e.shape) (λ e. e.number) c.args.entries.len c.args.entries.items c.deref_mut.result.now c.tile_by_threads.new.items
    c.deref_mut.ensures.value c.deref_mut.ensures.len c.tile_by_threads.ensures.items c.tile_by_threads.ensures.order
