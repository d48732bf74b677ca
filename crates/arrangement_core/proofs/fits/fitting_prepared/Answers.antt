use Rattle.std.proofs.Common.{◌∙◌, sym}
use Rattle.arrangement_core.proofs.SettledLemmas.{fitting_matrix, matrix_by_fit}
use Rattle.arrangement_core.proofs.fits.fitting_prepared.Goals as goal

pub returns-in-Ok-2-clause-fits : goal.returns-in-Ok-2-clause-fits
returns-in-Ok-2-clause-fits c = (
  λ no. absurd cc,
  λ fit. sym c.if-one_fits.false ∙ c.one_fits.ensures.1 (matrix_by_fit _ _ _ _ (fitting_matrix c.args.question.now _ _ _ c.in-Ok.ensures.matrix) fit),
)
