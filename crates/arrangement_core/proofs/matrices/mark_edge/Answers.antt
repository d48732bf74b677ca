use Rattle.std.proofs.Common.{rules, sym, subst}
use Rattle.std.specs.Prelude.{Option, IfSome}
use Rattle.arrangement_core.specs.declared.known.Seen.{Seen}
use Rattle.arrangement_core.specs.Seen.{IsSeen}
use Rattle.plane_core.specs.Figures.{HasLength}
use Rattle.noding_core.proofs.NodeLemmas.{all_among}
use Rattle.arrangement_core.proofs.ClearLemmas.{seen_last}
use Rattle.arrangement_core.proofs.WalkLemmas.{added_near}
use Rattle.arrangement_core.proofs.SharedLemmas.{shared_marked}
use Rattle.arrangement_core.proofs.matrices.mark_edge.Goals as goal

pub returns-then-adds_none_near-clause-seen : goal.returns-then-adds_none_near-clause-seen
returns-then-adds_none_near-clause-seen c = seen_last c.args.pair.now.second.now c.args.e.now _ c.seen_along-work.ensures

pub returns-in_err-stop_where_met-clause-seen : goal.returns-in_err-stop_where_met-clause-seen
returns-in_err-stop_where_met-clause-seen c = seen_last c.args.pair.now.second.now c.args.e.now _ c.seen_along-work.ensures

pub returns-in_err-marked-clause-seen : goal.returns-in_err-marked-clause-seen
returns-in_err-marked-clause-seen c =
    subst (λ (s : Option Seen). IfSome s (IsSeen c.args.pair.now.second.now)) (sym c.in_err-marked.ensures.seen)
    (seen_last c.args.pair.now.second.now c.args.e.now _ c.seen_along-work.ensures)

pub returns-clause-seen : goal.returns-clause-seen
returns-clause-seen c =
    subst (λ (s : Option Seen). IfSome s (IsSeen c.args.pair.now.second.now)) (sym c.in_ok-marked.ensures.seen)
    (seen_last c.args.pair.now.second.now c.args.e.now _ c.seen_along-work.ensures)

pub stop_where_met-requires-clause-near : goal.stop_where_met-requires-clause-near
stop_where_met-requires-clause-near c =
    rw (c.deref-5.ensures.value, c.course_of-course.ensures.edge) (added_near c.args.pair.now.second.now c.args.e.now _ _ c.clear.ensures.items c.in_ok-push_second.ensures.own c.in_ok-push_second.ensures.found)

pub adds_none_near-requires-clause-known : goal.adds_none_near-requires-clause-known
adds_none_near-requires-clause-known c =
    rw (c.course_of-course.ensures.part, c.course_of-course.ensures.edge) (c.part_seen.ensures c.args.pair.now.second.now c.args.e.now c.seen_along-work.ensures)

pub mark_near_edge-requires-clause-near : goal.mark_near_edge-requires-clause-near
mark_near_edge-requires-clause-near c =
    rw c.course_of-course.ensures.edge (added_near c.args.pair.now.second.now c.args.e.now _ _ c.clear.ensures.items c.in_ok-push_second.ensures.own c.in_ok-push_second.ensures.found)

pub mark_near_edge-requires-clause-course : goal.mark_near_edge-requires-clause-course
mark_near_edge-requires-clause-course c = record {
  known = rw (c.course_of-course.ensures.part, c.course_of-course.ensures.edge) (c.part_seen.ensures c.args.pair.now.second.now c.args.e.now c.seen_along-work.ensures);
  apart = c.course_of-course.ensures.apart c.args.pair.now.second.now (search rules);
}

pub returns-then-adds_none_shared-clause-marked : goal.returns-then-adds_none_shared-clause-marked
returns-then-adds_none_shared-clause-marked c =
    shared_marked c.args.pair.now.first.now c.args.pair.now.second.now c.args.points.now c.args.e.now _ c.args.matrix (c.requires.shared (c.adds_none_shared.ensures.marked c.if-adds_none_shared.true)) c.requires.one.one
    (added_near c.args.pair.now.second.now c.args.e.now _ _ c.clear.ensures.items c.in_ok-push_second.ensures.own c.in_ok-push_second.ensures.found)
    (rw c.deref.ensures.value at c.adds_none_shared.ensures.shared c.if-adds_none_shared.true)

pub seen_along-work-requires-clause-long : goal.seen_along-work-requires-clause-long
seen_along-work-requires-clause-long c =
    let one = c.requires.one in
    all_among HasLength c.args.e.now _ one.edges.long (one.edges.first c.args.e.now one.one)
