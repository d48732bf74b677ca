use Rattle.edge_index_core.proofs.TreeLemmas.{all_in}
use Rattle.noding_core.proofs.NearLemmas.{held_found}
use Rattle.noding_core.proofs.near.push_near.Goals as goal

pub push_node-requires-clause-lawful : goal.push_node-requires-clause-lawful
push_node-requires-clause-lawful c = c.in-Some.ensures.lawful

pub push_node-requires-clause-entries : goal.push_node-requires-clause-entries
push_node-requires-clause-entries c = rw c.edges-edges.ensures (all_in _ _ c.in-Some.ensures.holds)

pub returns-in-Some-clause-found : goal.returns-in-Some-clause-found
returns-in-Some-clause-found c =
    held_found c.args.e.now _ _ _ c.in-Some.ensures.holds (rw c.edges-edges.ensures at c.in_ok-push_node.ensures.found c.args.e.now c.bounds_of-bounds.ensures)

pub returns-in-Some-clause-own : goal.returns-in-Some-clause-own
returns-in-Some-clause-own c = rw c.edges-edges.ensures at c.in_ok-push_node.ensures.own

pub returns-in-Some-run_boxes-clause-own : goal.returns-in-Some-run_boxes-clause-own
returns-in-Some-run_boxes-clause-own c = rw c.edges-edges.ensures at c.push_runs.ensures.own

pub returns-in-None-clause-own : goal.returns-in-None-clause-own
returns-in-None-clause-own c = rw c.edges-edges.ensures at c.push_few.ensures.own
