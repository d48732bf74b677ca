use Rattle.std.proofs.Common.{refl}
use Rattle.edge_index_core.proofs.BoxLemmas.{held_x, held_y}
use Rattle.ring_core.proofs.pair.do_run_along.Goals as goal

pub returns : goal.returns
returns c =
    let e = c.args.e.now in
    let f = c.args.f.now in
    let x = rw (held_x e.a, held_x e.b, held_x f.a, held_x f.b) at c.share_interval-along_x.ensures in
    let y = rw (held_y e.a, held_y e.b, held_y f.a, held_y f.b) at c.share_interval-along_y.ensures in
    rw (c.is_level-is_first.ensures, c.is_level-is_last.ensures, x, y) refl
