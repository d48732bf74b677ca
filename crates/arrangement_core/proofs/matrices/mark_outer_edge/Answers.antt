use Rattle.std.proofs.Common.{refl, []}
use Rattle.plane_core.specs.Figures.{HasLength}
use Rattle.noding_core.specs.ReadOffs.{outline_edges}
use Rattle.noding_core.proofs.NodeLemmas.{all_among}
use Rattle.shown_core.proofs.ApartLemmas.{apart_of_near}
use Rattle.shown_core.proofs.BeyondLemmas.{lies_beyond}
use Rattle.arrangement_core.proofs.KnownLemmas.{part_adds_none}
use Rattle.arrangement_core.proofs.OuterLemmas.{none_found}
use Rattle.arrangement_core.proofs.WalkLemmas.{none_near}
use Rattle.arrangement_core.proofs.matrices.mark_outer_edge.Goals as goal

pub returns-then-is_edge_shown : goal.returns-then-is_edge_shown
returns-then-is_edge_shown c =
    let a = c.args.pair.now.first.now in
    let b = c.args.pair.now.second.now in
    let e = c.args.e.now in
    let one = c.requires.one in
    part_adds_none c.args.matrix a b (outline_edges a b) _ e _
    (lies_beyond b c.args.pair.now.second_box e c.requires.bounded c.requires.beyond) (c.is_edge_shown.ensures c.if-is_edge_shown.true)
    one.one (all_among HasLength e (outline_edges a b) one.edges.long (one.edges.first e one.one))

pub mark_near_edge-requires-clause-near : goal.mark_near_edge-requires-clause-near
mark_near_edge-requires-clause-near c = none_near c.args.pair.now.second.now c.args.e.now _ c.clear.ensures.items
    (none_found c.args.pair.now.second.now c.args.pair.now.second_box c.args.e.now _ c.requires.bounded c.requires.beyond)

pub mark_near_edge-requires-clause-course : goal.mark_near_edge-requires-clause-course
mark_near_edge-requires-clause-course c =
    let b = c.args.pair.now.second.now in
    record {
      known = lies_beyond b c.args.pair.now.second_box c.args.e.now c.requires.bounded c.requires.beyond;
      apart = apart_of_near c.args.e.now _ _ [] b refl refl (none_found b c.args.pair.now.second_box c.args.e.now [] c.requires.bounded c.requires.beyond);
    }
