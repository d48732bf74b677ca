use Rattle.plane_core.proofs.PlaceLemmas.{axis_order}
use Rattle.plane_core.proofs.place.Place.compare_y.Goals as goal

pub returns : goal.returns
returns c =
    let p = c.args.self.now in
    let rise = c.rise_to-rise.ensures in
    let up = c.rise_to-up.ensures in
    axis_order _ p p.edge.a.y p.edge.b.y c.args.v.now.y _ _ rise.bound up.bound rise.value up.value c.compare_products.ensures
