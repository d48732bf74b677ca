use Rattle.std.proofs.Common.{sym, ◌∙◌}
use Rattle.plane_core.specs.Places.{point_of}
use Rattle.edge_index_core.proofs.TreeLemmas.{place_wide}
use Rattle.arrangement_core.proofs.WalkLemmas.{lines_off, near_off, near_on}
use Rattle.arrangement_core.proofs.walk.part_among.Goals as goal

pub part_on_edge-requires : goal.part_on_edge-requires
part_on_edge-requires c =
    near_on c.args.pair.now.second.now c.args.e.now c.args.near.now (point_of c.args.p.now) c.requires.near (rw c.of-spot.ensures at (sym c.is_on_any.ensures ∙ c.if-is_on_any.true))

pub returns-else-is_on_any : goal.returns-else-is_on_any
returns-else-is_on_any c =
    let b = c.args.pair.now.second.now in
    let p = point_of c.args.p.now in
    sym (lines_off b c.args.pair.now.second_box p c.requires.bounded c.requires.lines
    (near_off b c.args.e.now c.args.near.now p c.requires.near (place_wide c.args.p.now) c.requires.on (rw c.of-spot.ensures at (sym c.is_on_any.ensures ∙ c.if-is_on_any.false))))
