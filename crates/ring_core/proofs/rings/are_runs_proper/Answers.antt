use Rattle.std.proofs.Common.{List, ◌+◌, refl, sym, subst}
use Rattle.geom_core.specs.declared.shape.Shape.{Shape}
use Rattle.edge_index_core.specs.Runs.{AreRunBoxes}
use Rattle.edge_index_core.proofs.RunLemmas.{boxes_over}
use Rattle.ring_core.proofs.RingLemmas.{true_false}
use Rattle.ring_core.proofs.RunLemmas.{boxes_after, boxes_left, split_run}
use Rattle.ring_core.proofs.RunLemmas.{proper_start, proper_next, proper_run, proper_later, proper_end}
use Rattle.ring_core.proofs.rings.are_runs_proper.Goals as goal

pub loop-i-init : goal.loop-i-init
loop-i-init c = record { boxes = c.requires; proper = proper_start c.args.edges.now }

pub returns-then-not-are_all_proper : goal.returns-then-not-are_all_proper
returns-then-not-are_all_proper c =
    let rest = c.loop-i.rest.now in (
      λ k. absurd (true_false k),
      λ proper. absurd (true_false (rw c.if-not-are_all_proper.true at (c.are_all_proper.ensures.1
          (proper_run c.args.edges.now rest _ _ (split_run rest _ _ c.first_run.ensures.run c.first_run.ensures.after) c.loop-i.invariant.proper proper)))),
    )

pub meets_later_runs-requires : goal.meets_later_runs-requires
meets_later_runs-requires c =
    subst (AreRunBoxes c.first_run.result.1.now) (sym (boxes_left c.args.boxes.now (c.loop-i.i + 1)))
    (boxes_after c.loop-i.rest.now _ c.args.boxes.now c.loop-i.i c.loop-i-test.true c.first_run.ensures.after c.loop-i.invariant.boxes)

pub returns-then-not-meets_later_runs : goal.returns-then-not-meets_later_runs
returns-then-not-meets_later_runs c =
    let rest = c.loop-i.rest.now in (
      λ k. absurd (true_false k),
      λ proper. absurd (true_false (rw c.if-not-meets_later_runs.true at (c.meets_later_runs.ensures.1
          (proper_later c.args.edges.now rest _ _ (split_run rest _ _ c.first_run.ensures.run c.first_run.ensures.after) c.loop-i.invariant.proper proper)))),
    )

pub loop-i-preserved : goal.loop-i-preserved
loop-i-preserved c =
    let rest = c.loop-i.rest.now in
    record {
      boxes = boxes_after rest _ c.args.boxes.now c.loop-i.i c.loop-i-test.true c.first_run.ensures.after c.loop-i.invariant.boxes;
      proper = proper_next c.args.edges.now rest _ _ (split_run rest _ _ c.first_run.ensures.run c.first_run.ensures.after)
          (c.are_all_proper.ensures.0 c.if-not-are_all_proper.false) (c.meets_later_runs.ensures.0 c.if-not-meets_later_runs.false) c.loop-i.invariant.proper;
    }

pub returns : goal.returns
returns c =
    let rest = c.loop-i.rest.now in (
      λ k. proper_end c.args.edges.now rest (boxes_over rest c.args.boxes.now c.loop-i.i c.loop-i-test.false c.loop-i.invariant.boxes) c.loop-i.invariant.proper,
      λ k. refl,
    )
