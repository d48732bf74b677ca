use Rattle.edge_index_core.proofs.indexed.scan_by_runs.Goals as goal

pub returns : goal.returns
returns c = rw c.of-spot.ensures at c.scan_runs.ensures
