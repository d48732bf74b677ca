use Rattle.std.proofs.Common.{rules}
use Rattle.report_core.proofs.ReportLemmas.{letters_added}
use Rattle.report_core.proofs.letters.BoxLettersLastFieldShapeTuple2U32U32.push_field.Goals as goal

pub returns : goal.returns
returns c = letters_added _ _ _ _ _ _ _ c.extend_from_slice.result c.letters-letters.ensures (search rules)
