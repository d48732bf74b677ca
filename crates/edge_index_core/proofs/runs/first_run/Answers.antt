use Rattle.std.proofs.Common.{rules, ◌∙◌}
use Rattle.edge_index_core.proofs.RunLemmas.{run_is, after_is}
use Rattle.edge_index_core.proofs.runs.first_run.Goals as goal

pub returns-clause-run : goal.returns-clause-run
returns-clause-run c = c.split_at.ensures.front ∙ run_is c.args.edges.now _ (search rules)

pub returns-clause-after : goal.returns-clause-after
returns-clause-after c = c.split_at.ensures.back ∙ after_is c.args.edges.now _ (search rules)
