use Rattle.std.proofs.Common.{List, subst, sym, ◌∙◌}
use Rattle.std.proofs.lemmas.List.{take_all}
use Rattle.plane_core.specs.declared.edge.Edge.{Edge}
use Rattle.edge_index_core.specs.Around.{AddsAround}
use Rattle.edge_index_core.proofs.AroundLemmas.{adds_no_edge, adds_beyond, adds_kept}
use Rattle.edge_index_core.proofs.around.push_around.Goals as goal

pub loop-e-init : goal.loop-e-init
loop-e-init c = adds_no_edge _ _

pub loop-e-preserved-then-beyond : goal.loop-e-preserved-then-beyond
loop-e-preserved-then-beyond c =
    adds_beyond _ _ _ _ _ _ c.loop-e-test.true c.e-item.is (sym c.is_beyond-beyond.ensures ∙ c.if-beyond.true) c.loop-e.invariant

pub loop-e-preserved : goal.loop-e-preserved
loop-e-preserved c = adds_kept _ _ _ _ _ _ _ c.loop-e-test.true c.e-item.is c.in_ok-push.ensures.items c.loop-e.invariant

pub returns : goal.returns
returns c =
    subst (λ (l : List Edge). AddsAround c.args.bounds.now l c.args.near.now.items c.loop-e.near.items) (take_all c.loop-e.e-index c.args.edges.now c.loop-e-test.false) c.loop-e.invariant
