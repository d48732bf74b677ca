use Rattle.std.proofs.lemmas.List.Elements.{All-nil}
use Rattle.edge_index_core.proofs.RunLemmas.{held_more, held_all}
use Rattle.edge_index_core.proofs.runs.bounds_of_run.Goals as goal

pub loop-e-init : goal.loop-e-init
loop-e-init c = All-nil _

pub loop-e-preserved : goal.loop-e-preserved
loop-e-preserved c =
    let wider = c.cover-bounds.ensures in
    held_more _ _ _ c.args.edges.now c.loop-e.e-index c.e-item.result c.loop-e-test.true c.e-item.is wider.first wider.second c.bounds_of-shape.ensures c.loop-e.invariant

pub returns : goal.returns
returns c = held_all _ c.args.edges.now c.loop-e.e-index c.loop-e-test.false c.loop-e.invariant
