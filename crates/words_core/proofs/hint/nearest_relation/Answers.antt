use Rattle.std.proofs.Common.{rules}
use Rattle.words_core.proofs.ReadingLemmas.{hint_is}
use Rattle.words_core.proofs.hint.nearest_relation.Goals as goal

pub returns : goal.returns
returns c = hint_is _ _ c.as_slice-names.result.now (search rules) (search)
