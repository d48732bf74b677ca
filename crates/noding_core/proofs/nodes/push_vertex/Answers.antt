use Rattle.noding_core.proofs.GatherLemmas.{on_pushed, vertex_pushed}
use Rattle.noding_core.proofs.nodes.push_vertex.Goals as goal

pub returns-in_ok-push-clause-on : goal.returns-in_ok-push-clause-on
returns-in_ok-push-clause-on c =
    on_pushed c.args.e.now _ _ c.on-node.result c.in_ok-push.ensures.items c.on-node.ensures.edge c.requires

pub returns-in_ok-push-clause-here : goal.returns-in_ok-push-clause-here
returns-in_ok-push-clause-here c = vertex_pushed c.args.e.now _ _ c.on-node.result c.args.v.now c.in_ok-push.ensures.items c.on-node.ensures.same
