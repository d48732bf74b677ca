use Rattle.number_core.proofs.FrontLemmas.{number_begins, number_at_front}
use Rattle.number_core.proofs.laws.number_law.Goals as goal

pub returns-clause-grammatical : goal.returns-clause-grammatical
returns-clause-grammatical c = number_begins

pub returns-clause-read : goal.returns-clause-read
returns-clause-read c = number_at_front
