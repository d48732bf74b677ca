use Rattle.std.proofs.Common.{rules}
use Rattle.report_core.proofs.ReportLemmas.{box_letters, shape_held}
use Rattle.report_core.proofs.letters.BoxLetters.letters.Goals as goal

pub returns : goal.returns
returns c =
    box_letters _ _ _ _ _ _ (shape_held _ _ _ (search) c.unwrap-first.ensures) (shape_held _ _ _ (search) c.unwrap-second.ensures)
    (search rules)
