use Rattle.std.proofs.Common.{◌≡◌, get_or, subst, rules}
use Rattle.report_core.specs.Written.{AppendsPrefix}
use Rattle.report_core.proofs.WrittenLemmas.{texts_failed, on_err}
use Rattle.report_core.proofs.sink.write_texts.Goals as goal

pub returns-in_err-write_all-clause-err : goal.returns-in_err-write_all-clause-err
returns-in_err-write_all-clause-err g c =
    let i = c.loop-text.text-index in
    let text : c.as_slice-bytes.result.now ≡ (get_or c.args.texts.now i c.text-item.result).items = search rules in
    on_err c.from_residual.result _ (texts_failed _ _ _ c.args.texts.now i c.text-item.result c.loop-text-test.true c.loop-text.invariant.1
    (subst (AppendsPrefix _ _) text c.in_err-write_all.ensures.err))
