use Rattle.std.proofs.Common.{sym}
use Rattle.std.proofs.lemmas.List.{length-map}
use Rattle.draw_core.proofs.PictureLemmas.{assembled}
use Rattle.draw_core.specs.Drawings.{drawing_by}
use Rattle.draw_core.proofs.drawing.picture.Goals as goal

pub returns : goal.returns
returns g c = record {
  text = assembled (drawing_by g.G.Geometry.box_of g.G.Drawn.start_of g.G.Drawn.path_of) c.args.left.now.list c.args.right.now.list
      _ _ _ _ _ _ _ _ _ _ _ _ _ _ _ c.new-frame.ensures (search) (search) (sym (length-map c.args.matches.now g.M.AsPair.pair_of))
      c.drawn_height-height.ensures.height c.in_ok-marks.ensures.left c.in_ok-marks.ensures.right c.new-text.ensures.bytes
      c.in_ok-push_opening.ensures c.in_ok-push_legend.ensures c.in_ok-push_canvas.ensures c.in_ok-push_group.ensures
      c.in_ok-push_group-2.ensures c.in_ok-push_str.ensures.bytes;
}
