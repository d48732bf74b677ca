use Rattle.std.proofs.Common.{sym, refl, ◌∙◌}
use Rattle.plane_core.specs.Places.{point_of}
use Rattle.plane_core.proofs.SpotLemmas.{place_wide, lie_over}
use Rattle.plane_core.proofs.spot.Spot.lie_along.Goals as goal

pub returns-then-is_below_both : goal.returns-then-is_below_both
returns-then-is_below_both c =
    let p = c.args.self.now.place in
    lie_over c.args.e.now (point_of p) _ (place_wide p) (sym c.is_below_both.ensures ∙ c.if-is_below_both.true) refl refl refl
