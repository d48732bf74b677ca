use Rattle.std.proofs.lemmas.List.Sorted.{All-permutation}
use Rattle.noding_core.specs.Gathered.{IsOn}
use Rattle.noding_core.proofs.GatherLemmas.{extends-trans, vertex_kept, all_meetings_kept, nodes_made}
use Rattle.noding_core.proofs.nodes.gather_nodes.Goals as goal

pub push_each_meetings-requires-clause-ends : goal.push_each_meetings-requires-clause-ends
push_each_meetings-requires-clause-ends c =
    let second = c.in_ok-push_vertex-2.ensures in
    record { first = vertex_kept _ _ _ _ second.kept c.in_ok-push_vertex.ensures.here; last = second.here }

pub returns-clause-nodes : goal.returns-clause-nodes
returns-clause-nodes c =
    let second = c.in_ok-push_vertex-2.ensures in
    let third = c.in_ok-push_each_meetings.ensures in
    let fourth = c.in_ok-push_vertices.ensures in
    let rest = extends-trans _ _ _ third.kept fourth.kept in
    nodes_made c.args.e.now c.args.near.now c.args.points.now _ _ c.requires fourth.on
    (vertex_kept _ _ _ _ (extends-trans _ _ _ second.kept rest) c.in_ok-push_vertex.ensures.here)
    (vertex_kept _ _ _ _ rest second.here)
    (all_meetings_kept _ _ _ _ fourth.kept third.meetings)
    fourth.here c.in_ok-sort_nodes.ensures.permutation c.in_ok-sort_nodes.ensures.sorted

pub returns-clause-on : goal.returns-clause-on
returns-clause-on c = All-permutation (IsOn c.args.e.now) _ _ c.in_ok-sort_nodes.ensures.permutation c.in_ok-push_vertices.ensures.on
