use Rattle.std.proofs.Common.{ap, refl, Err}
use Rattle.words_core.specs.Readings.{found_in}
use Rattle.words_core.proofs.JoinLemmas.{options_refused}
use Rattle.words_core.proofs.ReadingLemmas.{fault_as}
use Rattle.words_core.proofs.reading.options.read_options.Goals as goal

pub returns-in_err-options-clause-err : goal.returns-in_err-options-clause-err
returns-in_err-options-clause-err c =
    fault_as _ _ _ c.from_residual-in_err-options.ensures.1 (λ _. options_refused (found_in c.args.given.now) _ _ _ c.in_err-options.field-0.0 _
    c.in_ok-count.ensures.ok c.in_ok-batch.ensures.ok c.in_ok-cut.ensures.ok
    (λ e. c.in_err-options.ensures.workers.0 (ap (λ reason. Err reason) e)) (λ e. c.in_err-options.ensures.batch.0 (ap (λ reason. Err reason) e))
    (λ e. c.in_err-options.ensures.cut.0 (ap (λ reason. Err reason) e)) refl)
