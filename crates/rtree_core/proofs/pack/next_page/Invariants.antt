use Rattle.std.proofs.Common.{◌≡◌, ◌+◌}
use Rattle.std.specs.Vec.Iter.{into_iter_items, into_iter_len}
use Rattle.rtree_core.specs.Packed.{IsNextPage}
use Rattle.rtree_core.proofs.pack.next_page.Given as goal

abbrev pub invariant-loop : goal.invariant-loop
invariant-loop g l =
    record {
      page : IsNextPage g.T.Packable.held g.T.Packable.in_range l.counter (into_iter_items l.initial.items) (into_iter_items l.items) l.page;
      rest : into_iter_len l.items + l.counter ≡ into_iter_len l.initial.items;
    }
