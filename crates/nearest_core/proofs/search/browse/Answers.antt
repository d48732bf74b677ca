use Rattle.std.proofs.Common.{refl}
use Rattle.nearest_core.specs.Queues.{lists_of}
use Rattle.nearest_core.proofs.StepLemmas.{begun, less_work, not_so, search_done, search_ends, search_visits, visitable}
use Rattle.nearest_core.proofs.search.browse.Goals as goal

pub loop-next-init : goal.loop-next-init
loop-next-init g c = record {
  heap = c.requires.heap;
  under = begun g.G.Square.Square.fraction g.met.G.Square.Square.has_denominator g.G.Geometry.box_of g.G.Planar.has_point g.met.G.Planar.in_box
      c.args.sought.now.query.now c.args.right.now c.args.sought.now.geometry.now (lists_of c.args.queue.now c.args.measured.now c.args.found.now.items)
      c.requires.empty.0 c.requires.empty.1 c.requires.queue;
}

pub returns-then-ends : goal.returns-then-ends
returns-then-ends g c =
    search_ends g.G.Square.Square.fraction g.met.G.Square.Square.has_denominator g.G.Geometry.box_of g.G.Planar.has_point g.met.G.Planar.in_box
    c.args.sought.now.query.now c.args.right.now c.args.sought.now.geometry.now (lists_of c.loop-next.queue c.loop-next.measured c.loop-next.found.items)
    c.loop-next.invariant.under _ _ _ c.in-Some.next c.in-Some.ensures.next c.deref.ensures.value (c.if-ends.ensures.0 refl)

pub visit-requires-clause-next : goal.visit-requires-clause-next
visit-requires-clause-next g c =
    visitable g.G.Square.Square.fraction g.met.G.Square.Square.has_denominator g.G.Geometry.box_of g.G.Planar.has_point g.met.G.Planar.in_box
    c.args.sought.now.query.now c.args.right.now c.args.sought.now.geometry.now (lists_of c.loop-next.queue c.loop-next.measured c.loop-next.found.items)
    c.loop-next.invariant.under c.args.sought.now.bounds _ _ _ c.in-Some.next c.requires.bounds c.in-Some.ensures.next c.deref.ensures.value (not_so c.if-ends.ensures)

pub loop-next-smaller : goal.loop-next-smaller
loop-next-smaller g c =
    less_work g.G.Square.Square.fraction g.met.G.Square.Square.has_denominator g.G.Geometry.box_of g.G.Planar.has_point g.met.G.Planar.in_box
    c.args.sought.now.query.now c.args.right.now c.args.sought.now.geometry.now c.args.sought.now.bounds
    (lists_of c.loop-next.queue c.loop-next.measured c.loop-next.found.items) _ _ c.in-Some.next c.in-Some.ensures.next c.in_ok-visit.ensures.visits

pub loop-next-preserved : goal.loop-next-preserved
loop-next-preserved g c = record {
  heap = c.in_ok-visit.ensures.heap;
  under = search_visits g.G.Square.Square.fraction g.met.G.Square.Square.has_denominator g.G.Geometry.box_of g.G.Planar.has_point g.met.G.Planar.in_box
      c.args.sought.now.query.now c.args.right.now c.args.sought.now.geometry.now (lists_of c.loop-next.queue c.loop-next.measured c.loop-next.found.items)
      c.loop-next.invariant.under _ _ _ c.args.sought.now.bounds c.in-Some.next _ c.requires.bounds c.in-Some.ensures.next c.deref.ensures.value
      (not_so c.if-ends.ensures) c.in_ok-visit.ensures.visits;
}

pub returns : goal.returns
returns g c =
    search_done g.G.Square.Square.fraction g.met.G.Square.Square.has_denominator g.G.Geometry.box_of g.G.Planar.has_point g.met.G.Planar.in_box
    c.args.sought.now.query.now c.args.right.now c.args.sought.now.geometry.now (lists_of c.loop-next.queue c.loop-next.measured c.loop-next.found.items)
    c.loop-next.invariant.under c.in_default.ensures.queue c.in_default.ensures.measured
