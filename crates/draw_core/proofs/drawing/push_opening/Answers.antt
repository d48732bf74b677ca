use Rattle.std.proofs.Common.{codes, refl, ◌++◌}
use Rattle.draw_core.specs.Pictures.{style}
use Rattle.draw_core.proofs.PictureLemmas.{third_pushed}
use Rattle.draw_core.proofs.drawing.push_opening.Goals as goal

pub returns : goal.returns
returns c =
    let ground = codes "\">\n" ++ (style ++ codes "<rect width=\"100%\" height=\"100%\" fill=\"#fff\"/>\n") in
    third_pushed _ _ _ ground _ _ _ _ _ c.in_ok-push_counted.ensures c.in_ok-push_counted-2.ensures (search) refl
