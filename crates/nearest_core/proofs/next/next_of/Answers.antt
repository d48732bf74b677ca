use Rattle.std.specs.BinaryHeap.{heap_items}
use Rattle.nearest_core.proofs.QueueLemmas.{below_all, candidate_next, measured_next, none_waits}
use Rattle.nearest_core.proofs.next.next_of.Goals as goal

pub returns-in_default-clause-next : goal.returns-in_default-clause-next
returns-in_default-clause-next g c =
    measured_next g.S.Square.fraction _ c.in_ok-neighbour.field-0 _ _ c.requires c.in_ok-neighbour.ensures.permutation c.in_ok-neighbour.ensures.below_top
    (none_waits g.S.Square.fraction _ c.in_ok-neighbour.field-0 c.in_default.ensures.none)

pub returns-then-is_first_below-clause-next : goal.returns-then-is_first_below-clause-next
returns-then-is_first_below-clause-next g c =
    measured_next g.S.Square.fraction _ c.in_ok-neighbour-2.field-0 _ _ c.requires c.in_ok-neighbour-2.ensures.permutation c.in_ok-neighbour-2.ensures.below_top
    (below_all g.S.Square.fraction _ c.in-Some.square c.in_ok-neighbour-2.field-0 (heap_items c.args.measured.now) c.in_ok-neighbour-2.ensures.top
    (c.is_first_below.ensures.yes c.if-is_first_below.true) c.in-Some.ensures.first)

pub returns-clause-next : goal.returns-clause-next
returns-clause-next g c =
    candidate_next g.S.Square.fraction _ _ c.in_ok-candidate.candidate c.in-Some.square _ c.in_ok-candidate.ensures.others c.in_ok-candidate.ensures.first
    c.in-Some.ensures.held (c.is_first_below.ensures.no c.if-is_first_below.false)
