use Rattle.std.proofs.Common.{Some, None}
use Rattle.words_core.proofs.ReadingLemmas.{text_found}
use Rattle.words_core.proofs.reading.arguments.required.Goals as goal

pub returns-in-Some-clause-ok : goal.returns-in-Some-clause-ok
returns-in-Some-clause-ok c = text_found _ _ (Some c.in-Some.value) c.in-Some.ensures

pub returns-in-None-clause-none : goal.returns-in-None-clause-none
returns-in-None-clause-none c = text_found _ _ None c.in-None.ensures
