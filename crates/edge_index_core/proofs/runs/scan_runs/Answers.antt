use Rattle.std.proofs.Common.{List, ◌++◌, drop, ◌+◌, sym, subst, ◌∙◌}
use Rattle.plane_core.specs.declared.edge.Edge.{Edge}
use Rattle.plane_core.specs.Places.{point_of}
use Rattle.plane_core.specs.Outlines.{IsScan}
use Rattle.edge_index_core.specs.Runs.{AreRunBoxes}
use Rattle.edge_index_core.proofs.TreeLemmas.{place_wide}
use Rattle.edge_index_core.proofs.RunLemmas.{none_scanned, run_scanned, scan_apart, all_scanned, boxes_next, boxes_over}
use Rattle.edge_index_core.proofs.runs.scan_runs.Goals as goal

pub loop-shape-init : goal.loop-shape-init
loop-shape-init c = record {
  boxes = c.requires;
  scanned = none_scanned c.args.edges.now (point_of c.args.p.now.place) _ (c.empty-scan.ensures (point_of c.args.p.now.place));
}

pub loop-shape-preserved-then-not-is_over : goal.loop-shape-preserved-then-not-is_over
loop-shape-preserved-then-not-is_over c =
    let p = point_of c.args.p.now.place in
    let boxes = c.args.boxes.now in
    let i = c.loop-shape.shape-index in
    let rest = c.loop-shape.rest.now in
    let s = c.shape-item.result in
    let next = boxes_next rest boxes i s c.loop-shape-test.true c.shape-item.is c.loop-shape.invariant.boxes in
    record {
      boxes = subst (λ (l : List Edge). AreRunBoxes l (drop (i + 1) boxes)) (sym c.first_run.ensures.after) next.1;
      scanned = run_scanned c.args.edges.now rest _ p _ _ c.first_run.ensures.after
          (λ ds h. scan_apart ds _ p s _ (place_wide c.args.p.now.place) (sym c.is_over_box-is_over.ensures ∙ c.if-not-is_over.true) next.0 h)
          c.loop-shape.invariant.scanned;
    }

pub loop-shape-preserved : goal.loop-shape-preserved
loop-shape-preserved c =
    let p = point_of c.args.p.now.place in
    let boxes = c.args.boxes.now in
    let i = c.loop-shape.shape-index in
    let rest = c.loop-shape.rest.now in
    let next = boxes_next rest boxes i c.shape-item.result c.loop-shape-test.true c.shape-item.is c.loop-shape.invariant.boxes in
    record {
      boxes = subst (λ (l : List Edge). AreRunBoxes l (drop (i + 1) boxes)) (sym c.first_run.ensures.after) next.1;
      scanned = run_scanned c.args.edges.now rest _ p _ _ c.first_run.ensures.after
          (λ ds h. subst (λ (l : List Edge). IsScan (ds ++ l) p c.scan_all-scan.result) c.first_run.ensures.run (c.scan_all-scan.ensures ds h))
          c.loop-shape.invariant.scanned;
    }

pub returns : goal.returns
returns c =
    let rest = c.loop-shape.rest.now in
    all_scanned c.args.edges.now rest (point_of c.args.p.now.place) _
    (boxes_over rest c.args.boxes.now c.loop-shape.shape-index c.loop-shape-test.false c.loop-shape.invariant.boxes) c.loop-shape.invariant.scanned
