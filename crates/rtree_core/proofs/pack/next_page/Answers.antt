use Rattle.std.proofs.Common.{arith}
use Rattle.rtree_core.proofs.PackLemmas.{page_none, page_more}
use Rattle.rtree_core.proofs.pack.next_page.Goals as goal

pub loop-preserved : goal.loop-preserved
loop-preserved g c = record {
  page =
      page_more g.T.Packable.held g.T.Packable.in_range c.loop.counter _ _ _ c.loop.page _ c.in-Some.item
      _ c.loop.invariant.page c.in-Some.ensures.items c.into_held-held.ensures.held c.into_held-held.ensures.in_range
      c.push_reserved.ensures.items c.push_reserved.ensures.len c.push_reserved.ensures.capacity;
  rest = omega (arith, c.in-Some.ensures.len);
}

pub loop-init : goal.loop-init
loop-init g c = record {
  page =
      page_none g.T.Packable.held g.T.Packable.in_range _ c.in_ok-page.page c.in_ok-page.ensures.items c.in_ok-page.ensures.len
      c.in_ok-page.ensures.capacity;
  rest = omega arith;
}
