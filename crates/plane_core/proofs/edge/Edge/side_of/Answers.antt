use Rattle.plane_core.proofs.TestLemmas.{side_held, side_bound}
use Rattle.plane_core.proofs.edge.Edge.side_of.Goals as goal

pub returns-clause-value : goal.returns-clause-value
returns-clause-value c =
    let run = c.run_to-run in
    let rise = c.rise_to-rise in
    let across = c.run_to-across in
    let up = c.rise_to-up in
    side_held c.args.self.now c.args.v.now c.cross.result run.result rise.result across.result up.result
    run.ensures.bound rise.ensures.bound across.ensures.bound up.ensures.bound
    run.ensures.value rise.ensures.value across.ensures.value up.ensures.value
    c.cross.ensures.bound c.cross.ensures.value

pub returns-clause-bound : goal.returns-clause-bound
returns-clause-bound c =
    side_bound c.cross.result c.run_to-run.result c.rise_to-rise.result c.run_to-across.result c.rise_to-up.result
    c.run_to-run.ensures.bound c.rise_to-rise.ensures.bound c.run_to-across.ensures.bound c.rise_to-up.ensures.bound
    c.cross.ensures.bound
