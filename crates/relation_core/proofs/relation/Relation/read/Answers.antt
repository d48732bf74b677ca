use Rattle.std.proofs.lemmas.Result.{err_from_is_err_and}
use Rattle.relation_core.specs.declared.mask.MaskFault.TheVariants.{Length, Letter}
use Rattle.relation_core.proofs.MaskLemmas.{ok_not_err, err_exact}
use Rattle.relation_core.proofs.relation.Relation.read.Goals as goal

pub returns-in_err-mask-in-None-clause-letter : goal.returns-in_err-mask-in-None-clause-letter
returns-in_err-mask-in-None-clause-letter c =
    let p = err_from_is_err_and c.from_residual.result c.from_residual.ensures.1 in
    rw (p.1, p.2) (λ place. err_exact c.in_err-mask-in-None.field-0.0 (Letter place) _ (c.in_err-mask-in-None.ensures.letter place))

pub returns-in_ok-mask-in-None-clause-letter : goal.returns-in_ok-mask-in-None-clause-letter
returns-in_ok-mask-in-None-clause-letter c = λ place. (
  λ e. absurd (ok_not_err _ (Letter place) e),
  λ w. absurd (ok_not_err _ (Letter place) ((c.in_ok-mask-in-None.ensures.letter place).1 w)),
)

pub returns-in_ok-mask-in-None-clause-length : goal.returns-in_ok-mask-in-None-clause-length
returns-in_ok-mask-in-None-clause-length c = (
  λ e. absurd (ok_not_err _ Length e),
  λ w. absurd (ok_not_err _ Length (c.in_ok-mask-in-None.ensures.length.1 w.0)),
)

pub returns-in-Some-clause-length : goal.returns-in-Some-clause-length
returns-in-Some-clause-length c = (λ e. absurd (ok_not_err _ Length e), λ w. absurd (w.1 c.in-Some.relation c.in-Some.ensures.some.1))
