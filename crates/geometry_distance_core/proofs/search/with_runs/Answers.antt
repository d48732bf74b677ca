use Rattle.std.proofs.Common.{List, drop, ◌+◌, sym, subst}
use Rattle.plane_core.specs.declared.edge.Edge.{Edge}
use Rattle.edge_index_core.specs.Runs.{AreRunBoxes}
use Rattle.edge_index_core.proofs.RunLemmas.{boxes_next, boxes_over}
use Rattle.geometry_distance_core.specs.NearestPairs.{AddsPairs, of_each}
use Rattle.geometry_distance_core.proofs.SearchLemmas.{none_added, run_added, run_far, all_added}
use Rattle.geometry_distance_core.proofs.search.with_runs.Goals as goal

pub loop-shape-init : goal.loop-shape-init
loop-shape-init c = record {
  boxes = c.requires.boxes;
  added = none_added c.args.e.now c.args.fs.now c.args.nearest;
}

pub loop-shape-preserved-then-is_far : goal.loop-shape-preserved-then-is_far
loop-shape-preserved-then-is_far c =
    let boxes = c.args.boxes.now in
    let i = c.loop-shape.shape-index in
    let rest = c.loop-shape.rest.now in
    let s = c.shape-item.result in
    let next = boxes_next rest boxes i s c.loop-shape-test.true c.shape-item.is c.loop-shape.invariant.boxes in
    record {
      boxes = subst (λ (l : List Edge). AreRunBoxes l (drop (i + 1) boxes)) (sym c.first_run.ensures.after) next.1;
      added = run_added c.args.e.now c.args.fs.now rest _ _ _ _ c.first_run.ensures.after
          (run_far c.args.e.now _ c.squared_distance.result c.args.bounds.now s _ c.requires.bounds next.0 (c.is_past-is_far.ensures.0 c.if-is_far.true) c.squared_distance.ensures.least)
          c.loop-shape.invariant.added;
    }

pub loop-shape-preserved : goal.loop-shape-preserved
loop-shape-preserved c =
    let boxes = c.args.boxes.now in
    let i = c.loop-shape.shape-index in
    let rest = c.loop-shape.rest.now in
    let next = boxes_next rest boxes i c.shape-item.result c.loop-shape-test.true c.shape-item.is c.loop-shape.invariant.boxes in
    record {
      boxes = subst (λ (l : List Edge). AreRunBoxes l (drop (i + 1) boxes)) (sym c.first_run.ensures.after) next.1;
      added = run_added c.args.e.now c.args.fs.now rest _ _ _ _ c.first_run.ensures.after
          (subst (λ (l : List Edge). AddsPairs (of_each c.args.e.now l) c.loop-shape.found c.with_each-found.result) c.first_run.ensures.run c.with_each-found.ensures)
          c.loop-shape.invariant.added;
    }

pub returns : goal.returns
returns c =
    let rest = c.loop-shape.rest.now in
    all_added c.args.e.now c.args.fs.now rest _ _
    (boxes_over rest c.args.boxes.now c.loop-shape.shape-index c.loop-shape-test.false c.loop-shape.invariant.boxes) c.loop-shape.invariant.added
