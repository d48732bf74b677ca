use Rattle.std.proofs.Common.{◌≡◌, true, false}
use Rattle.std.specs.Prelude.{Bool}
use Rattle.plane_core.proofs.NodeLemmas.{abs_held, abs_beyond, along_x, along_y, vertex_by_x, vertex_by_y}
use Rattle.plane_core.proofs.node.Node.on.Goals as goal

clash : (t : Bool) → t ≡ true → t ≡ false → ⊥
clash t h k = cc

pub reduced-requires-clause-not_beyond : goal.reduced-requires-clause-not_beyond
reduced-requires-clause-not_beyond c =
    let up = c.rise_to.ensures in
    let rise = c.rise_to-then-is_vertical.ensures in
    abs_beyond _ _ _ _ _ _ up.bound rise.bound up.value rise.value c.abs.ensures.value c.abs-then-is_vertical.ensures.value (along_y c.args.e.now c.args.v.now c.requires)

pub reduced-requires-else-is_vertical-clause-not_beyond : goal.reduced-requires-else-is_vertical-clause-not_beyond
reduced-requires-else-is_vertical-clause-not_beyond c =
    let across = c.run_to.ensures in
    let run = c.run_to-else-is_vertical.ensures in
    abs_beyond _ _ _ _ _ _ across.bound run.bound across.value run.value c.abs-else-is_vertical.ensures.value c.abs-else-is_vertical-2.ensures.value (along_x c.args.e.now c.args.v.now c.requires)

pub returns-then-is_vertical-clause-same : goal.returns-then-is_vertical-clause-same
returns-then-is_vertical-clause-same c =
    let up = c.rise_to.ensures in
    let rise = c.rise_to-then-is_vertical.ensures in
    let made = c.reduced in
    vertex_by_y c.args.e.now c.args.v.now made.result.place c.requires made.ensures.edge (c.is_vertical.ensures.0 c.if-is_vertical.true)
    (rw (abs_held _ _ _ up.bound up.value c.abs.ensures.value, abs_held _ _ _ rise.bound rise.value c.abs-then-is_vertical.ensures.value) at made.ensures.fraction)

pub returns-else-is_vertical-clause-same : goal.returns-else-is_vertical-clause-same
returns-else-is_vertical-clause-same c =
    let across = c.run_to.ensures in
    let run = c.run_to-else-is_vertical.ensures in
    let made = c.reduced-else-is_vertical in
    vertex_by_x c.args.e.now c.args.v.now made.result.place c.requires made.ensures.edge (λ k. clash _ (c.is_vertical.ensures.1 k) c.if-is_vertical.false)
    (rw (abs_held _ _ _ across.bound across.value c.abs-else-is_vertical.ensures.value, abs_held _ _ _ run.bound run.value c.abs-else-is_vertical-2.ensures.value) at made.ensures.fraction)
