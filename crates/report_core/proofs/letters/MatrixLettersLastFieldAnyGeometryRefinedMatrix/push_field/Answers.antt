use Rattle.std.proofs.Common.{rules}
use Rattle.report_core.specs.AnyMatches.{IsAnyMatrix}
use Rattle.report_core.proofs.ReportLemmas.{letters_added}
use Rattle.report_core.proofs.letters.MatrixLettersLastFieldAnyGeometryRefinedMatrix.push_field.Goals as goal

pub returns : goal.returns
returns c =
    let found = c.args.found.now in
    letters_added IsAnyMatrix _ _ found.pair _ _ _ c.extend_from_slice.result
    (record { matrix = found.answer; has_matrix = c.requires; written = c.text-letters.ensures }) (search rules)
