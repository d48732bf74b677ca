use Rattle.relate_any_core.proofs.BothFormatsLemmas.{text_parts, text_matrix}
use Rattle.relate_any_core.proofs.laws.texts_law.Goals as goal

pub returns-clause-same_parts : goal.returns-clause-same_parts
returns-clause-same_parts c = text_parts

pub returns-clause-one_matrix : goal.returns-clause-one_matrix
returns-clause-one_matrix c = text_matrix
