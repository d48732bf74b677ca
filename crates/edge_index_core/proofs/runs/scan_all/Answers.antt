use Rattle.std.proofs.Common.{List, ◌++◌, sym, subst, append-nil}
use Rattle.std.proofs.lemmas.List.{take_all}
use Rattle.plane_core.specs.declared.edge.Edge.{Edge}
use Rattle.plane_core.specs.Places.{point_of}
use Rattle.plane_core.specs.Outlines.{IsScan}
use Rattle.edge_index_core.proofs.RunLemmas.{scan_more}
use Rattle.edge_index_core.proofs.runs.scan_all.Goals as goal

pub loop-e-init : goal.loop-e-init
loop-e-init c = λ es h. subst (λ (l : List Edge). IsScan l (point_of c.args.p.now.place) c.args.scan) (sym (append-nil es)) h

pub loop-e-preserved : goal.loop-e-preserved
loop-e-preserved c = λ es h.
    scan_more es c.args.edges.now (point_of c.args.p.now.place) c.loop-e.e-index c.e-item.result _ _ c.loop-e-test.true c.e-item.is (c.loop-e.invariant es h) c.with-grown.ensures

pub returns : goal.returns
returns c = λ es h.
    subst (λ (l : List Edge). IsScan (es ++ l) (point_of c.args.p.now.place) c.loop-e.grown) (take_all c.loop-e.e-index c.args.edges.now c.loop-e-test.false) (c.loop-e.invariant es h)
