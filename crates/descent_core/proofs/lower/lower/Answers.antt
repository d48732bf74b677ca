use Rattle.std.proofs.Common.{rules}
use Rattle.descent_core.proofs.LowerLemmas.{inner_step}
use Rattle.descent_core.proofs.lower.lower.Goals as goal

pub returns-else-leaf-clause-step : goal.returns-else-leaf-clause-step
returns-else-leaf-clause-step c = inner_step _ _ (search rules) c.requires (search rules)
