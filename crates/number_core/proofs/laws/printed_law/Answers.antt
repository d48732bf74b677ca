use Rattle.number_core.proofs.PrintedLemmas.{number_spelled}
use Rattle.number_core.proofs.laws.printed_law.Goals as goal

pub returns : goal.returns
returns c = record { spells = number_spelled }
