use Rattle.any_relation_core.proofs.BoxLemmas.{allows_envelopes}
use Rattle.any_relation_core.proofs.laws.box_law.Goals as goal

pub returns : goal.returns
returns c = allows_envelopes
