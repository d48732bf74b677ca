use Rattle.plane_core.proofs.PlaceLemmas.{axis_order}
use Rattle.plane_core.proofs.place.Place.compare_x.Goals as goal

pub returns : goal.returns
returns c =
    let p = c.args.self.now in
    let run = c.run_to-run.ensures in
    let across = c.run_to-across.ensures in
    axis_order _ p p.edge.a.x p.edge.b.x c.args.v.now.x _ _ run.bound across.bound run.value across.value c.compare_products.ensures
