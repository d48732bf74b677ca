use Rattle.number_core.proofs.NumberLemmas.{rounded_value}
use Rattle.number_core.proofs.number.Plain.rounded.Goals as goal

pub returns-clause-value : goal.returns-clause-value
returns-clause-value c =
    rounded_value _ _ _ _ _ _ c.requires c.signed_number.ensures c.rounded_up-units.ensures
