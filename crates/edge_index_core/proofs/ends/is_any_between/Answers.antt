use Rattle.std.proofs.Common.{◌∙◌}
use Rattle.edge_index_core.proofs.EndLemmas.{along_any}
use Rattle.edge_index_core.proofs.ends.is_any_between.Goals as goal

pub returns : goal.returns
returns c = c.is_any_on.ensures ∙ along_any c.args.e.now c.args.ordered.now _ c.between.ensures
