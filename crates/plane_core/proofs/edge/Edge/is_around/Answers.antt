use Rattle.std.specs.Prelude.{◌&&◌}
use Rattle.plane_core.proofs.TestLemmas.{held_x, held_y}
use Rattle.plane_core.proofs.edge.Edge.is_around.Goals as goal

pub returns : goal.returns
returns c =
    let e = c.args.self.now in
    let v = c.args.v.now in
    let x = rw (held_x e.a, held_x e.b, held_x v) at c.is_between-across.ensures in
    let y = rw (held_y e.a, held_y e.b, held_y v) at c.is_between-up.ensures in
    λ i. x i && y i
