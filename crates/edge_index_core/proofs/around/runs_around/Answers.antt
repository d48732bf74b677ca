use Rattle.std.proofs.Common.{List, drop, ◌+◌, sym, subst}
use Rattle.plane_core.specs.declared.edge.Edge.{Edge}
use Rattle.edge_index_core.specs.Runs.{AreRunBoxes}
use Rattle.edge_index_core.proofs.AroundLemmas.{none_to, run_to, run_off_to, whole_around}
use Rattle.edge_index_core.proofs.RunLemmas.{boxes_next, boxes_over}
use Rattle.edge_index_core.proofs.around.runs_around.Goals as goal

pub loop-shape-init : goal.loop-shape-init
loop-shape-init c = record { boxes = c.requires; around = none_to _ _ _ c.new-near.ensures.items }

pub loop-shape-preserved-then-not-meets : goal.loop-shape-preserved-then-not-meets
loop-shape-preserved-then-not-meets c =
    let boxes = c.args.boxes.now in
    let i = c.loop-shape.shape-index in
    let rest = c.loop-shape.rest.now in
    let box = c.shape-item.result in
    let next = boxes_next rest boxes i box c.loop-shape-test.true c.shape-item.is c.loop-shape.invariant.boxes in
    record {
      boxes = subst (λ (l : List Edge). AreRunBoxes l (drop (i + 1) boxes)) (sym c.first_run.ensures.after) next.1;
      around = run_off_to c.args.bounds.now c.args.edges.now rest _ box _ c.first_run.ensures.after
          (λ m. cc (c.meets-meets.ensures.1 m)) next.0 c.loop-shape.invariant.around;
    }

pub loop-shape-preserved : goal.loop-shape-preserved
loop-shape-preserved c =
    let boxes = c.args.boxes.now in
    let i = c.loop-shape.shape-index in
    let rest = c.loop-shape.rest.now in
    let next = boxes_next rest boxes i c.shape-item.result c.loop-shape-test.true c.shape-item.is c.loop-shape.invariant.boxes in
    record {
      boxes = subst (λ (l : List Edge). AreRunBoxes l (drop (i + 1) boxes)) (sym c.first_run.ensures.after) next.1;
      around = run_to c.args.bounds.now c.args.edges.now rest _ _ _ _ c.first_run.ensures.run c.first_run.ensures.after c.in_ok-push_around.ensures
          c.loop-shape.invariant.around;
    }

pub returns : goal.returns
returns c =
    let rest = c.loop-shape.rest.now in
    whole_around _ c.args.edges.now rest _
    (boxes_over rest c.args.boxes.now c.loop-shape.shape-index c.loop-shape-test.false c.loop-shape.invariant.boxes) c.loop-shape.invariant.around
