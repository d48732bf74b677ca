use Rattle.std.proofs.Common.{Err, refl}
use Rattle.words_core.proofs.ReadingLemmas.{no_relation}
use Rattle.words_core.proofs.reading.relation.read_relation.Goals as goal

pub relation_fault-requires-clause-reason : goal.relation_fault-requires-clause-reason
relation_fault-requires-clause-reason c = no_relation (Err c.in-Err.fault) _ _ _ refl (search) c.in-Err.ensures.length c.in-Err.ensures.letter
