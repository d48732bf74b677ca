use Rattle.arrangement_core.proofs.SettledLemmas.{fit_by_answer, answer_by_fit, settled_right}
use Rattle.arrangement_core.proofs.fits.fits_prepared.Goals as goal

pub returns-in-Ok : goal.returns-in-Ok
returns-in-Ok c = (
  λ yes. fit_by_answer c.args.question.now _ _ _ c.in-Ok.ensures.matrix (c.one_fits.ensures.0 yes),
  λ fit. c.one_fits.ensures.1 (answer_by_fit c.args.question.now _ _ _ c.in-Ok.ensures.matrix fit),
)

pub returns-in-Err-Settled : goal.returns-in-Err-Settled
returns-in-Err-Settled c =
    settled_right c.args.question.now c.args.a.now c.args.b.now _ c.in-Err-Settled.answer c.in-Err-Settled.field-0-is c.in-Err-Settled.ensures.end c.requires
