use Rattle.std.proofs.Common.{List, All, drop, ◌+◌, sym, subst}
use Rattle.plane_core.specs.declared.edge.Edge.{Edge}
use Rattle.edge_index_core.specs.Runs.{AreRunBoxes}
use Rattle.edge_index_core.proofs.RunLemmas.{boxes_next, boxes_over}
use Rattle.noding_core.specs.Near.{IsFound}
use Rattle.noding_core.proofs.GatherLemmas.{extends-refl, extends-trans}
use Rattle.noding_core.proofs.NearLemmas.{adds-none, adds-trans, adds_run, none_found, run_found, run_missed, runs_found}
use Rattle.noding_core.proofs.near.push_runs.Goals as goal

pub loop-shape-init : goal.loop-shape-init
loop-shape-init c = record {
  boxes = c.requires;
  kept = extends-refl _;
  own = adds-none _ _;
  found = none_found c.args.e.now c.args.edges.now _;
}

pub loop-shape-preserved-then-not-meets : goal.loop-shape-preserved-then-not-meets
loop-shape-preserved-then-not-meets c =
    let boxes = c.args.boxes.now in
    let i = c.loop-shape.shape-index in
    let rest = c.loop-shape.rest.now in
    let box = c.shape-item.result in
    let next = boxes_next rest boxes i box c.loop-shape-test.true c.shape-item.is c.loop-shape.invariant.boxes in
    record {
      boxes = subst (λ (l : List Edge). AreRunBoxes l (drop (i + 1) boxes)) (sym c.first_run.ensures.after) next.1;
      kept = c.loop-shape.invariant.kept;
      own = c.loop-shape.invariant.own;
      found = run_missed c.args.e.now c.args.edges.now rest _ _ c.bounds_of-bounds.result box c.first_run.ensures.after c.bounds_of-bounds.ensures
          (λ m. cc (c.meets-meets.ensures.1 m)) next.0 c.loop-shape.invariant.found;
    }

pub loop-shape-preserved : goal.loop-shape-preserved
loop-shape-preserved c =
    let boxes = c.args.boxes.now in
    let i = c.loop-shape.shape-index in
    let rest = c.loop-shape.rest.now in
    let e = c.args.e.now in
    let pushed = c.in_ok-push_few.ensures in
    let next = boxes_next rest boxes i c.shape-item.result c.loop-shape-test.true c.shape-item.is c.loop-shape.invariant.boxes in
    record {
      boxes = subst (λ (l : List Edge). AreRunBoxes l (drop (i + 1) boxes)) (sym c.first_run.ensures.after) next.1;
      kept = extends-trans _ _ _ c.loop-shape.invariant.kept pushed.kept;
      own = adds-trans _ _ _ _ c.loop-shape.invariant.own (adds_run c.args.edges.now c.loop-shape.invariant.found.done rest _ _ _
          c.loop-shape.invariant.found.whole c.first_run.ensures.run pushed.own);
      found = run_found e c.args.edges.now rest _ _ _ c.first_run.ensures.after pushed.kept
          (subst (All (IsFound e _)) c.first_run.ensures.run pushed.found) c.loop-shape.invariant.found;
    }

pub returns-clause-found : goal.returns-clause-found
returns-clause-found c =
    let rest = c.loop-shape.rest.now in
    runs_found c.args.e.now c.args.edges.now rest _
    (boxes_over rest c.args.boxes.now c.loop-shape.shape-index c.loop-shape-test.false c.loop-shape.invariant.boxes) c.loop-shape.invariant.found
