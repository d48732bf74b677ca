use Rattle.std.proofs.Common.{sym, subst}
use Rattle.std.specs.Prelude.{Option, IfSome}
use Rattle.plane_core.specs.declared.edge.Edge.{Edge}
use Rattle.plane_core.specs.declared.part.Part.{Part}
use Rattle.plane_core.specs.Points.{is_on}
use Rattle.plane_core.specs.Places.{point_of}
use Rattle.edge_index_core.proofs.TreeLemmas.{place_wide}
use Rattle.noding_core.proofs.AmongLemmas.{none_any}
use Rattle.noding_core.specs.Growth.{mark_in}
use Rattle.noding_core.proofs.GrowthLemmas.{grown_none}
use Rattle.shown_core.proofs.ShownLemmas.{any_among, node_marked}
use Rattle.arrangement_core.specs.Crossed.{LiesAfter}
use Rattle.arrangement_core.proofs.AcrossLemmas.{after_of_off, off_of_before, across_after}
use Rattle.arrangement_core.proofs.WalkLemmas.{near_off}
use Rattle.arrangement_core.proofs.walk.add_node.Goals as goal

pub add_beside-requires-clause-off : goal.add_beside-requires-clause-off
add_beside-requires-clause-off c =
    let b = c.args.pair.now.second.now in
    let e = c.args.course.now.edge in
    let p = point_of c.args.p.now in
    off_of_before c.args.pair.now.first.now b c.args.pair.now.second_box e p c.args.walk.part c.requires.bounded
    (near_off b e c.args.near.now p c.requires.near (place_wide c.args.p.now) c.requires.on.on (none_any (λ (f : Edge). is_on f p) c.args.near.now (rw c.of.ensures at c.in-Nowhere.ensures)))
    c.requires.before

pub add_on-requires : goal.add_on-requires
add_on-requires c =
    let b = c.args.pair.now.second.now in
    let p = point_of c.args.p.now in
    any_among (λ (f : Edge). is_on f p) b.edges.items c.in-Once.f (c.requires.near.own c.in-Once.f c.in-Once.ensures.one) (rw c.of.ensures at c.in-Once.ensures.on)

pub add_on-requires-in-Often : goal.add_on-requires-in-Often
add_on-requires-in-Often c =
    let b = c.args.pair.now.second.now in
    let p = point_of c.args.p.now in
    let some = c.in-Often.ensures in
    any_among (λ (f : Edge). is_on f p) b.edges.items some.0 (c.requires.near.own some.0 some.1) (rw c.of.ensures at some.2)

pub returns-in-Nowhere-clause-after : goal.returns-in-Nowhere-clause-after
returns-in-Nowhere-clause-after c =
    after_of_off c.args.pair.now.first.now c.args.pair.now.second.now c.args.pair.now.second_box c.args.course.now.edge (point_of c.args.p.now) c.add_beside.result.part c.requires.bounded c.add_beside.ensures.off

pub returns-in-Once-clause-after : goal.returns-in-Once-clause-after
returns-in-Once-clause-after c =
    let a = c.args.pair.now.first.now in
    let b = c.args.pair.now.second.now in
    let e = c.args.course.now.edge in
    let p = point_of c.args.p.now in
    subst (λ (x : Option Part). IfSome x (LiesAfter a b e p)) (sym c.add_on.ensures.after)
    (across_after a b c.args.pair.now.second_box e c.in-Once.f c.args.near.now p c.args.walk.part c.part_across-after.result c.requires.bounded c.requires.near c.requires.before
    (rw c.of.ensures at c.in-Once.ensures) (rw c.edges.ensures at c.part_across-after.ensures))

pub add_beside-requires-clause-nowhere : goal.add_beside-requires-clause-nowhere
add_beside-requires-clause-nowhere c =
    let p = point_of c.args.p.now in
    near_off c.args.pair.now.second.now c.args.course.now.edge c.args.near.now p c.requires.near (place_wide c.args.p.now) c.requires.on.on
    (none_any (λ (f : Edge). is_on f p) c.args.near.now (rw c.of.ensures at c.in-Nowhere.ensures))

pub returns-then-is_settled-clause-grown : goal.returns-then-is_settled-clause-grown
returns-then-is_settled-clause-grown c =
    let b = c.args.pair.now.second.now in
    let p = point_of c.args.p.now in
    node_marked c.args.pair.now.first.now b p c.part_on_edge-part.result c.args.walk.matrix c.args.walk.matrix c.part_on_edge-part.ensures
    (grown_none (mark_in c.part_on_edge-part.result b p) c.args.walk.matrix (c.is_settled.ensures c.if-is_settled.true))
