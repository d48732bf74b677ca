use Rattle.std.proofs.Common.{◌≡◌, of_z, rules, to_z, w64}
use Rattle.draw_core.proofs.PictureLemmas.{last_of_four}
use Rattle.draw_core.proofs.outline.push_outline.Goals as goal

pub returns : goal.returns
returns c =
    let wide : to_z w64 (of_z w64 c.width.result) ≡ c.width.result = search rules in
    let high : to_z w64 (of_z w64 c.height.result) ≡ c.height.result = search rules in
    let across = rw (wide, c.width.ensures) at c.in_ok-push_number.ensures in
    let down = rw (high, c.height.ensures) at c.in_ok-push_number-2.ensures in
    last_of_four c.push_return.result _ _ _ _ _ _ _ _ _ c.in_ok-push_corner.ensures across down c.push_return.ensures
