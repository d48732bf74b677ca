use Rattle.std.proofs.Common.{rules}
use Rattle.draw_core.proofs.PictureLemmas.{item_added}
use Rattle.draw_core.proofs.figure.push_paths.Goals as goal

pub loop-i-preserved : goal.loop-i-preserved
loop-i-preserved c =
    item_added _ _ _ _ _ c.loop-i.i c.path.result.now (search rules) (c.path.ensures c.path.result.now) c.loop-i.invariant
    c.in_ok-push_path.ensures
