use Rattle.std.proofs.Common.{rules, ◌≡◌, sym, subst, w64, to_z, of_z}
use Rattle.std.proofs.lemmas.Int.{to_z-of_z}
use Rattle.geometry_text_core.specs.Positions.{IsUnits}
use Rattle.geometry_text_core.proofs.OnlyLemmas.{vertex_position}
use Rattle.geometry_text_core.proofs.point.vertex_at.Goals as goal

pub returns : goal.returns
returns c =
    let x : to_z w64 (of_z w64 c.in_ok-x.x) ≡ c.in_ok-x.x = search (rules, to_z-of_z) in
    let y : to_z w64 (of_z w64 c.in_ok-y.y) ≡ c.in_ok-y.y = search (rules, to_z-of_z) in
    vertex_position c.args.scale c.args.x c.args.y (to_z w64 (of_z w64 c.in_ok-x.x)) (to_z w64 (of_z w64 c.in_ok-y.y)) c.vertex_within.result
    (subst (IsUnits c.args.scale c.args.x) (sym x) c.in_ok-x.ensures.some) (subst (IsUnits c.args.scale c.args.y) (sym y) c.in_ok-y.ensures.some)
    c.vertex_within.ensures.some c.vertex_within.ensures.x c.vertex_within.ensures.y
