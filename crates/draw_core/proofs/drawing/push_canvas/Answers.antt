use Rattle.std.proofs.Common.{◌≡◌, ◌++◌, codes, refl, string_bytes}
use Rattle.draw_core.specs.Pictures.{counted}
use Rattle.draw_core.proofs.PictureLemmas.{fourth_pushed}
use Rattle.draw_core.proofs.drawing.push_canvas.Goals as goal

pub returns : goal.returns
returns c =
    let view = c.args.frame.now in
    let before = string_bytes c.push_counted.new.text in
    let wide = string_bytes c.push_counted-2.new.text in
    let high = string_bytes c.push_counted-3.new.text in
    let width = counted (codes "\" preserveAspectRatio=\"xMidYMin\" viewBox=\"0 0 ") view.width in
    let height = counted (codes " ") view.height in
    let wider : wide ≡ before ++ width = cc c.in_ok-push_counted-2.ensures in
    let higher : high ≡ wide ++ height = cc c.in_ok-push_counted-3.ensures in
    fourth_pushed _ _ _ _ (codes "\">\n") _ _ _ _ _ _ c.in_ok-push_counted.ensures wider higher (search) refl
