use Rattle.any_relation_core.proofs.FilterLemmas.{boxes_of_relation, meet_or_apart}
use Rattle.any_relation_core.proofs.laws.filter_law.Goals as goal

-- src/laws.rt:15:1
pub returns : goal.returns
returns c rings relation g h s t forbids is_g is_h in_s in_t holds = meet_or_apart s t (boxes_of_relation rings relation g h s t forbids is_g is_h in_s in_t holds)
