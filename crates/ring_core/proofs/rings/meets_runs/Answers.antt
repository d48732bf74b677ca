use Rattle.std.proofs.Common.{List, drop, ◌+◌, refl, sym, subst, ◌∙◌}
use Rattle.plane_core.specs.declared.edge.Edge.{Edge}
use Rattle.edge_index_core.specs.Runs.{AreRunBoxes}
use Rattle.edge_index_core.proofs.RunLemmas.{boxes_next, boxes_over}
use Rattle.ring_core.proofs.RingLemmas.{true_false}
use Rattle.ring_core.proofs.RunLemmas.{MeetAll, comes_first, comes_next, comes_last, run_met, run_apart, split_run}
use Rattle.ring_core.proofs.rings.meets_runs.Goals as goal

pub loop-shape-init : goal.loop-shape-init
loop-shape-init c = record { boxes = c.requires; met = comes_first c.args.e.now c.args.edges.now }

pub loop-shape-preserved-then-not-meets : goal.loop-shape-preserved-then-not-meets
loop-shape-preserved-then-not-meets c =
    let boxes = c.args.boxes.now in
    let i = c.loop-shape.shape-index in
    let rest = c.loop-shape.rest.now in
    let box = c.shape-item.result in
    let e = c.args.e.now in
    let next = boxes_next rest boxes i box c.loop-shape-test.true c.shape-item.is c.loop-shape.invariant.boxes in
    let run = c.first_run.ensures.run in
    record {
      boxes = subst (λ (l : List Edge). AreRunBoxes l (drop (i + 1) boxes)) (sym c.first_run.ensures.after) next.1;
      met = comes_next e c.args.edges.now rest _ _ (split_run rest _ _ run c.first_run.ensures.after)
          (subst (λ (l : List Edge). MeetAll l e) (sym run)
          (run_apart e _ _ box c.bounds_of-bounds.ensures (λ m. cc (c.meets-meets.ensures.1 m)) next.0))
          c.loop-shape.invariant.met;
    }

pub returns-then-not-meets_all : goal.returns-then-not-meets_all
returns-then-not-meets_all c =
    let rest = c.loop-shape.rest.now in (
      λ k. absurd (true_false k),
      λ all. absurd (true_false (rw c.if-not-meets_all.true at (c.meets_all.ensures.1
          (run_met c.args.e.now c.args.edges.now rest _ _ (split_run rest _ _ c.first_run.ensures.run c.first_run.ensures.after) c.loop-shape.invariant.met all)))),
    )

pub loop-shape-preserved : goal.loop-shape-preserved
loop-shape-preserved c =
    let boxes = c.args.boxes.now in
    let i = c.loop-shape.shape-index in
    let rest = c.loop-shape.rest.now in
    let next = boxes_next rest boxes i c.shape-item.result c.loop-shape-test.true c.shape-item.is c.loop-shape.invariant.boxes in
    record {
      boxes = subst (λ (l : List Edge). AreRunBoxes l (drop (i + 1) boxes)) (sym c.first_run.ensures.after) next.1;
      met = comes_next c.args.e.now c.args.edges.now rest _ _ (split_run rest _ _ c.first_run.ensures.run c.first_run.ensures.after)
          (c.meets_all.ensures.0 c.if-not-meets_all.false) c.loop-shape.invariant.met;
    }

pub returns : goal.returns
returns c =
    let rest = c.loop-shape.rest.now in (
      λ k. comes_last c.args.e.now c.args.edges.now rest
          (boxes_over rest c.args.boxes.now c.loop-shape.shape-index c.loop-shape-test.false c.loop-shape.invariant.boxes) c.loop-shape.invariant.met,
      λ k. refl,
    )
