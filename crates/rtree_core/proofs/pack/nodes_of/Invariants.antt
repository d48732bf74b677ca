use Rattle.std.proofs.Common.{◌≡◌, map, vec_capacity}
use Rattle.std.specs.List.{enumerate_from}
use Rattle.std.specs.Vec.Iter.{into_iter_items}
use Rattle.rtree_core.proofs.PackingLemmas.{HasPages}
use Rattle.rtree_core.proofs.PackLemmas.{IsCut}
use Rattle.rtree_core.proofs.pack.nodes_of.Given as goal

abbrev pub invariant-loop-place : goal.invariant-loop-place
invariant-loop-place g l = record {
  cut : IsCut g.T.Held.Item.entries g.T.Held.Item.fits g.T.Held.Item.fits_packed g.T.Packable.in_range
      (map g.T.Packable.held (into_iter_items l.initial.rest)) l.pages l.place (map (λ p. p.node) l.nodes.items)
      (map g.T.Packable.held (into_iter_items l.rest));
  pages : HasPages g.T.Held.Item.list_of (map g.T.Packable.held (into_iter_items l.initial.rest)) l.pages l.place (map (λ p. p.node) l.nodes.items)
      (map g.T.Packable.held (into_iter_items l.rest));
  places : map (λ p. (p.place, p.node)) l.nodes.items ≡ enumerate_from 0 (map (λ p. p.node) l.nodes.items);
  room : vec_capacity l.nodes ≡ l.pages;
}
