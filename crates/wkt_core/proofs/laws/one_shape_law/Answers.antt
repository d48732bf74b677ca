use Rattle.wkt_core.proofs.TextLemmas.{one_raw_form}
use Rattle.wkt_core.proofs.AnswerLemmas.{one_shape}
use Rattle.wkt_core.proofs.laws.one_shape_law.Goals as goal

pub returns-clause-one_raw_form : goal.returns-clause-one_raw_form
returns-clause-one_raw_form c = one_raw_form

pub returns-clause-one_shape : goal.returns-clause-one_shape
returns-clause-one_shape c = one_shape
