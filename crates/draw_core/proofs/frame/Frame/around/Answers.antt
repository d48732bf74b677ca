use Rattle.draw_core.proofs.PictureLemmas.{same_coordinate, moved_down, moved_up, around_is}
use Rattle.draw_core.proofs.frame.Frame.around.Goals as goal

pub returns : goal.returns
returns c =
    let r = c.requires in
    let bound = c.margin_of-margin.ensures.bound in
    let x1 = same_coordinate c.args.x1 r.first_x in
    let y1 = same_coordinate c.args.y1 r.first_y in
    let x2 = same_coordinate c.args.x2 r.second_x in
    let y2 = same_coordinate c.args.y2 r.second_y in
    around_is c.args.x1 c.args.y1 c.args.x2 c.args.y2 _ _ c.distance-width.result c.distance-height.result c.margin_of-margin.result
    (rw (x1, x2) at c.distance-width.ensures.distance) (rw (y1, y2) at c.distance-height.ensures.distance) c.margin_of-margin.ensures.margin
    (moved_down c.args.x1 _ r.first_x bound)
    (moved_up c.args.y2 _ r.second_y bound)
