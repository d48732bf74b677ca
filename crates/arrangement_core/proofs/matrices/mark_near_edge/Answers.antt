use Rattle.std.proofs.lemmas.List.Elements.{All-append}
use Rattle.plane_core.specs.Figures.{HasLength}
use Rattle.noding_core.specs.Near.{IsFound}
use Rattle.noding_core.specs.ReadOffs.{outline_edges}
use Rattle.noding_core.proofs.NodeLemmas.{all_among}
use Rattle.noding_core.proofs.NearLemmas.{all_found_kept, near_nodes}
use Rattle.noding_core.proofs.ReadOffLemmas.{edge_marked}
use Rattle.shown_core.proofs.ShownLemmas.{cuts_at}
use Rattle.arrangement_core.proofs.SingleLemmas.{nodes_along}
use Rattle.arrangement_core.proofs.WalkLemmas.{first_near}
use Rattle.arrangement_core.proofs.matrices.mark_near_edge.Goals as goal

pub gather_nodes-requires : goal.gather_nodes-requires
gather_nodes-requires c =
    let e = c.args.course.now.edge in
    let es = outline_edges c.args.pair.now.first.now c.args.pair.now.second.now in
    all_among HasLength e es c.requires.one.edges.long (c.requires.one.edges.first e c.requires.one.one)

pub mark_noded-marked-requires-clause-cuts : goal.mark_noded-marked-requires-clause-cuts
mark_noded-marked-requires-clause-cuts c =
    let e = c.args.course.now.edge in
    let a = c.args.pair.now.first.now in
    let b = c.args.pair.now.second.now in
    let near = c.in_ok-push_near.ensures in
    let found = All-append (IsFound e _) a.edges.items b.edges.items near.found (all_found_kept e _ _ b.edges.items near.kept c.requires.near.found) in
    cuts_at _ _ _ _ _ _ c.as_slice-nodes.result.now c.requires.one
    (nodes_along e (outline_edges a b) c.args.points.now _ _ c.in_ok-find_along.ensures
    (near_nodes e (outline_edges a b) _ _ _ found (rw (c.as_slice-near.ensures.value, c.as_slice-along.ensures.value) at c.in_ok-gather_nodes.ensures.nodes))) c.as_slice-nodes.ensures.value

pub returns-clause-marked : goal.returns-clause-marked
returns-clause-marked c =
    let e = c.args.course.now.edge in
    let a = c.args.pair.now.first.now in
    let b = c.args.pair.now.second.now in
    let near = c.in_ok-push_near.ensures in
    let found = All-append (IsFound e _) a.edges.items b.edges.items near.found (all_found_kept e _ _ b.edges.items near.kept c.requires.near.found) in
    edge_marked _ _ _ _ _ _ c.as_slice-nodes.result.now _ _
    (nodes_along e (outline_edges a b) c.args.points.now _ _ c.in_ok-find_along.ensures
    (near_nodes e (outline_edges a b) _ _ _ found (rw (c.as_slice-near.ensures.value, c.as_slice-along.ensures.value) at c.in_ok-gather_nodes.ensures.nodes))) c.as_slice-nodes.ensures.value c.mark_noded-marked.ensures

pub mark_noded-marked-requires-clause-near : goal.mark_noded-marked-requires-clause-near
mark_noded-marked-requires-clause-near c =
    first_near c.args.pair.now.second.now c.args.course.now.edge _ _ _ c.in_ok-push_near.ensures.kept
    (rw (c.as_slice-near.ensures.value, c.as_slice-others.ensures.value) at c.split_at.ensures.front) c.requires.near

pub mark_noded-marked-requires-clause-on : goal.mark_noded-marked-requires-clause-on
mark_noded-marked-requires-clause-on c = rw c.as_slice-nodes.ensures.value c.in_ok-gather_nodes.ensures.on
