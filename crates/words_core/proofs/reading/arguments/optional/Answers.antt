use Rattle.words_core.proofs.ReadingLemmas.{text_found}
use Rattle.words_core.proofs.reading.arguments.optional.Goals as goal

pub returns : goal.returns
returns c = text_found _ _ _ (search)
