use Rattle.std.proofs.Common.{rules, ◌≡◌, true, false, sym, ◌∙◌}
use Rattle.std.specs.Ordering.{is_lt}
use Rattle.plane_core.specs.Places.{node_point, point_of, place_order}
use Rattle.noding_core.proofs.NodeLemmas.{gap_second}
use Rattle.noding_core.proofs.ReadOffLemmas.{order_before}
use Rattle.shown_core.proofs.ShownLemmas.{node_on}
use Rattle.arrangement_core.proofs.WalkLemmas.{step_crossed, step_on, piece_grown, same_next, same_grown}
use Rattle.arrangement_core.proofs.AcrossLemmas.{off_of_after, before_of_off}
use Rattle.arrangement_core.proofs.walk.step.Goals as goal

pub add_piece-requires-clause-on : goal.add_piece-requires-clause-on
add_piece-requires-clause-on c =
    let p = node_point c.args.k.now in
    let q = node_point c.args.l.now in
    let less : is_lt (place_order p q) ≡ true = search rules in
    step_on c.args.pair.now.first.now c.args.pair.now.second.now c.args.pair.now.second_box c.args.course.now.edge p q c.requires.bounded c.requires.next (order_before p q less) (point_of c.middle.result) c.middle.ensures

pub add_piece-requires-clause-uncrossed : goal.add_piece-requires-clause-uncrossed
add_piece-requires-clause-uncrossed c =
    let p = node_point c.args.k.now in
    let q = node_point c.args.l.now in
    let less : is_lt (place_order p q) ≡ true = search rules in
    step_crossed c.args.pair.now.first.now c.args.pair.now.second.now c.args.pair.now.second_box c.args.course.now.edge p q c.requires.bounded c.requires.next (order_before p q less) (point_of c.middle.result) c.middle.ensures

pub add_piece-requires-clause-off : goal.add_piece-requires-clause-off
add_piece-requires-clause-off c =
    let p = node_point c.args.k.now in
    let q = node_point c.args.l.now in
    let less : is_lt (place_order p q) ≡ true = search rules in
    off_of_after c.args.pair.now.first.now c.args.pair.now.second.now c.args.course.now.edge p q (point_of c.middle.result) c.args.walk.part c.requires.next (order_before p q less) c.middle.ensures c.requires.after

pub add_node-requires-clause-on : goal.add_node-requires-clause-on
add_node-requires-clause-on c =
    let p = node_point c.args.k.now in
    let q = node_point c.args.l.now in
    let less : is_lt (place_order p q) ≡ true = search rules in
    let next = c.requires.next in
    node_on c.args.pair.now.first.now c.args.pair.now.second.now c.args.course.now next.nodes q next.cuts (gap_second p q next.nodes (next.gap (order_before p q less)))

pub add_node-requires-clause-before : goal.add_node-requires-clause-before
add_node-requires-clause-before c =
    let p = node_point c.args.k.now in
    let q = node_point c.args.l.now in
    let less : is_lt (place_order p q) ≡ true = search rules in
    before_of_off c.args.pair.now.first.now c.args.pair.now.second.now c.args.course.now.edge p q (point_of c.middle.result) c.add_piece.result.part c.requires.next (order_before p q less) c.middle.ensures c.add_piece.ensures.off

pub returns-then-is_lt-clause-grown : goal.returns-then-is_lt-clause-grown
returns-then-is_lt-clause-grown c =
    let p = node_point c.args.k.now in
    let q = node_point c.args.l.now in
    let less : is_lt (place_order p q) ≡ true = search rules in
    piece_grown c.args.pair.now.first.now c.args.pair.now.second.now c.args.course.now.edge p q (point_of c.middle.result) _ _ _ less c.middle.ensures c.add_piece.ensures.grown c.add_node.ensures.grown

pub returns-else-is_lt-clause-grown : goal.returns-else-is_lt-clause-grown
returns-else-is_lt-clause-grown c =
    let a = c.args.pair.now.first.now in
    let b = c.args.pair.now.second.now in
    let e = c.args.course.now.edge in
    let p = node_point c.args.k.now in
    let q = node_point c.args.l.now in
    let not_less : is_lt (place_order p q) ≡ false = search rules in
    same_grown a b e c.args.k.now c.args.l.now c.args.walk.matrix not_less (same_next a b e p q c.requires.next not_less) c.requires.here

pub compare-requires : goal.compare-requires
compare-requires c = c.requires.first ∙ sym c.requires.second

pub middle-requires : goal.middle-requires
middle-requires c = c.requires.first ∙ sym c.requires.second
