use Rattle.double_core.proofs.LawLemmas.{one_rounded, no_rounded_fault}
use Rattle.double_core.proofs.laws.rounded_law.Goals as goal

pub returns-clause-units : goal.returns-clause-units
returns-clause-units c = one_rounded

pub returns-clause-faultless : goal.returns-clause-faultless
returns-clause-faultless c = no_rounded_fault
