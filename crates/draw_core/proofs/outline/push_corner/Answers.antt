use Rattle.std.proofs.Common.{◌≡◌, ap, ◌∙◌, codes, of_z, rules, to_z, w64}
use Rattle.draw_core.specs.Outlines.{numbered}
use Rattle.draw_core.proofs.PictureLemmas.{last_of_two}
use Rattle.draw_core.proofs.outline.push_corner.Goals as goal

pub returns : goal.returns
returns c =
    let x : to_z w64 (of_z w64 c.x_of.result) ≡ c.x_of.result = search rules in
    let y : to_z w64 (of_z w64 c.y_of.result) ≡ c.y_of.result = search rules in
    let across = rw (x, c.x_of.ensures) at c.in_ok-push_number.ensures in
    last_of_two c.push_number-2.result _ _ _ _ _ _ across c.push_number-2.ensures (ap (numbered (codes " ")) (y ∙ c.y_of.ensures))
