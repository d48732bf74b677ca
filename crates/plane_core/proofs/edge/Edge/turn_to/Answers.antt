use Rattle.plane_core.proofs.TestLemmas.{side_bound}
use Rattle.plane_core.proofs.edge.Edge.turn_to.Goals as goal

pub returns-clause-bound : goal.returns-clause-bound
returns-clause-bound c =
    let run = c.run_to-run in
    let rise = c.rise_to-rise in
    let other_run = c.run_to-other_run in
    let other_rise = c.rise_to-other_rise in
    side_bound c.cross.result run.result other_run.result rise.result other_rise.result
    run.ensures.bound other_run.ensures.bound rise.ensures.bound other_rise.ensures.bound
    c.cross.ensures.bound
