use Rattle.std.proofs.Common.{refl}
use Rattle.plane_core.specs.Places.{point_of}
use Rattle.plane_core.proofs.SpotLemmas.{place_wide, lie_under}
use Rattle.plane_core.proofs.spot.Spot.lie_under.Goals as goal

pub returns : goal.returns
returns c =
    let p = c.args.self.now.place in
    lie_under c.args.e.now (point_of p) c.is_over-forth.result c.is_over-back.result _ (place_wide p) c.requires
    c.is_over-forth.ensures c.is_over-back.ensures refl refl refl
