use Rattle.std.proofs.Common.{arith, ◌≡◌, ℕ, ◌-◌, ap, sym, refl, map, length}
use Rattle.std.proofs.lemmas.List.{length-map, map-append}
use Rattle.std.specs.declared.alloc.Global.{Global}
use Rattle.std.specs.declared.vec.Vec.{Vec}
use Rattle.std.specs.Prelude.{List, vec_len}
use Rattle.std.specs.Vec.Iter.{into_iter_items}
use Rattle.rtree_core.specs.declared.pack.Placed.{Placed}
use Rattle.rtree_core.specs.declared.node.Node.{Node}
use Rattle.rtree_core.specs.Packed.{IsShare}
use Rattle.split_core.specs.Tiles.{items_before}
use Rattle.rtree_core.proofs.PackingLemmas.{pages_none, pages_more, pages_all, enumerate_next}
use Rattle.rtree_core.proofs.PackLemmas.{share_some, share_fits, share_within, cut_none, cut_more, cut_all, cut_in_range}
use Rattle.rtree_core.proofs.pack.nodes_of.Goals as goal
use Rattle.rtree_core.proofs.pack.nodes_of.Goals.{After-page_size-size}

left : (g : _) (c : After-page_size-size g) → length (map g.T.Packable.held (into_iter_items c.loop-place.rest)) ≡ c.len-left.result
left g c = omega (arith, c.len-left.ensures, c.loop-place.rest.rest.ok.0, length-map (into_iter_items c.loop-place.rest) g.T.Packable.held)

share : (g : _) (c : After-page_size-size g) →
    IsShare c.page_size-size.result (length (map g.T.Packable.held (into_iter_items c.loop-place.rest))) (c.div_ceil-pages.result - c.loop-place.place)
share g c = rw (left g c) c.page_size-size.ensures.share

sized : (g : _) (c : After-page_size-size g) →
    c.page_size-size.result ≡
    items_before 1 (c.div_ceil-pages.result - c.loop-place.place) (length (map g.T.Packable.held (into_iter_items c.loop-place.rest)))
sized g c = rw (left g c) c.page_size-size.ensures.value

-- how many items there are, as they were counted and as they are taken
counted : {T S : Type 0} (held : T → S) (items : Vec T Global) (rest : List T) (count : ℕ) → rest ≡ items.items → count ≡ vec_len items →
    length (map held rest) ≡ count
counted held items rest count taken told = omega (arith, length-map rest held, ap length taken, items.ok.0, told)

pub node_of-node-requires : goal.node_of-node-requires
node_of-node-requires g c =
    let at = (goal.at.node_of-node-requires g c).After-page_size-size in
    let some = share_some _ _ _ _ _ _ _ _ _ _ c.loop-place-test.true
    (omega (arith, counted g.T.Packable.held c.args.items _ _ c.into_iter-rest.ensures.rest c.len-count.ensures, c.div_ceil-pages.ensures)) c.loop-place.invariant.cut (share g at) in
    let few = share_fits _ _ _ _ _ _ _ _ _ _ c.loop-place-test.true c.loop-place.invariant.cut (share g at) in
    record {
      some = omega (arith, c.in_ok-page.ensures.page.len, some);
      few = omega (arith, c.in_ok-page.ensures.page.len, few);
      room = c.in_ok-page.ensures.page.room;
    }

pub loop-place-init : goal.loop-place-init
loop-place-init g c = record {
  cut =
      rw c.in_ok-nodes.ensures.items
      (cut_none _ _ _ _ _ _ (omega (arith, counted g.T.Packable.held c.args.items _ _ c.into_iter-rest.ensures.rest c.len-count.ensures, c.div_ceil-pages.ensures)));
  pages = rw c.in_ok-nodes.ensures.items (pages_none _ _ _);
  places = rw c.in_ok-nodes.ensures.items refl;
  room = c.in_ok-nodes.ensures.exact;
}

pub loop-place-preserved : goal.loop-place-preserved
loop-place-preserved g c =
    let at = (goal.at.loop-place-preserved g c).After-page_size-size in
    record {
      cut =
          let node : Placed → Node = λ p. p.node in
          rw (c.push_reserved.ensures.items, map-append node)
          (cut_more _ _ _ _ _ _ _ _ _ _ c.in_ok-page.page.items _ c.node_of-node.result c.loop-place-test.true c.loop-place.invariant.cut
          c.in_ok-page.ensures.page.taken (rw (← c.in_ok-page.page.ok.0, c.in_ok-page.ensures.page.len) (share g at)) c.node_of-node.ensures.node
          c.node_of-node.ensures.packed c.in_ok-page.ensures.page.in_range);
      pages =
          let node : Placed → Node = λ p. p.node in
          rw (c.push_reserved.ensures.items, map-append node)
          (pages_more _ _ _ _ _ _ c.in_ok-page.page.items _ c.node_of-node.result c.loop-place-test.true c.loop-place.invariant.pages
          c.in_ok-page.ensures.page.taken (rw (← c.in_ok-page.page.ok.0, c.in_ok-page.ensures.page.len) (sized g at)) c.node_of-node.ensures.list);
      places =
          let node : Placed → Node = λ p. p.node in
          let pair : Placed → ℕ × Node = λ p. (p.place, p.node) in
          rw (c.push_reserved.ensures.items, map-append node, map-append pair)
          (enumerate_next _ _ _ _ (sym c.loop-place.invariant.cut.count) c.loop-place.invariant.places);
      room = omega (arith, c.push_reserved.ensures.capacity, c.loop-place.invariant.room);
    }

pub returns-clause-nodes : goal.returns-clause-nodes
returns-clause-nodes g c =
    let all : c.loop-place.place ≡ c.div_ceil-pages.result = omega arith in
    let pages = rw (← counted g.T.Packable.held c.args.items _ _ c.into_iter-rest.ensures.rest c.len-count.ensures) at c.div_ceil-pages.ensures in
    rw c.into_iter-rest.ensures.rest at (cut_all _ _ _ _ _ c.div_ceil-pages.result _ _ pages (rw all at c.loop-place.invariant.cut))

pub returns-clause-pages : goal.returns-clause-pages
returns-clause-pages g c =
    let all : c.loop-place.place ≡ c.div_ceil-pages.result = omega arith in
    let pages = rw (← counted g.T.Packable.held c.args.items _ _ c.into_iter-rest.ensures.rest c.len-count.ensures) at c.div_ceil-pages.ensures in
    rw c.into_iter-rest.ensures.rest at (pages_all _ _ c.div_ceil-pages.result _ _ pages (rw all at c.loop-place.invariant.pages))

pub returns-clause-in_range : goal.returns-clause-in_range
returns-clause-in_range g c =
    let all : c.loop-place.place ≡ c.div_ceil-pages.result = omega arith in
    rw c.into_iter-rest.ensures.rest at (cut_in_range _ _ _ _ _ c.div_ceil-pages.result _ _ (rw all at c.loop-place.invariant.cut))

pub push_reserved-requires : goal.push_reserved-requires
push_reserved-requires g c =
    let node : Placed → Node = λ p. p.node in
    omega (
      arith,
      c.loop-place.invariant.room,
      c.loop-place.invariant.cut.count,
      length-map c.loop-place.nodes.items node,
      c.loop-place.nodes.ok.0,
    )

pub returns-clause-places : goal.returns-clause-places
returns-clause-places g c = c.loop-place.invariant.places

pub next_page-requires-clause-enough : goal.next_page-requires-clause-enough
next_page-requires-clause-enough g c =
    let within = share_within _ _ _ (omega (arith, c.loop-place-test.true)) c.page_size-size.ensures.share in
    omega (arith, within, c.len-left.ensures)

pub next_page-requires-clause-few : goal.next_page-requires-clause-few
next_page-requires-clause-few g c =
    let at = (goal.at.next_page-requires-clause-few g c).After-page_size-size in
    share_fits _ _ _ _ _ _ _ _ _ _ c.loop-place-test.true c.loop-place.invariant.cut (share g at)
