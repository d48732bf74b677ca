use Rattle.std.proofs.Common.{arith}
use Rattle.geometry_text_core.proofs.OnlyLemmas.{code_few, code_some}
use Rattle.geometry_text_core.proofs.head.heading_of.Goals as goal

pub returns-in_default-clause-none : goal.returns-in_default-clause-none
returns-in_default-clause-none c = λ h e. omega (arith, e, code_few h, code_some h)
