use Rattle.plane_core.specs.Points.{is_on}
use Rattle.geometry_distance_core.proofs.SearchLemmas.{list_none, list_more, each_all}
use Rattle.geometry_distance_core.proofs.search.with_each.Goals as goal

pub loop-f-init : goal.loop-f-init
loop-f-init c = list_none c.args.e.now is_on c.args.nearest

pub loop-f-preserved : goal.loop-f-preserved
loop-f-preserved c =
    list_more c.args.e.now is_on c.args.fs.now c.loop-f.f-index c.f-item.result _ _ _ c.loop-f-test.true c.f-item.is c.loop-f.invariant c.with_edges-found.ensures

pub returns : goal.returns
returns c = each_all c.args.e.now c.args.fs.now c.loop-f.f-index _ _ c.loop-f-test.false c.loop-f.invariant
