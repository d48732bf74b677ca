use Rattle.std.proofs.Common.{codes, inr}
use Rattle.clap.specs.Words.{first_of}
use Rattle.words_core.specs.Readings.{found_in}
use Rattle.words_core.proofs.JoinLemmas.{scale_refused}
use Rattle.words_core.proofs.ReadingLemmas.{fault_as, needs_some}
use Rattle.words_core.proofs.reading.read_layer.Goals as goal

pub returns-in_err-scale-clause-err : goal.returns-in_err-scale-clause-err
returns-in_err-scale-clause-err c =
    fault_as _ _ _ c.from_residual-in_err-scale.ensures.1 (λ known.
    needs_some (codes "LAYER") (first_of (codes "LAYER") (found_in c.args.given.now))
    c.in_ok-path.path.now _ _ c.in_ok-path.ensures.ok
    (inr (
      (c.in_ok-layout.layout, c.in_ok-layout.ensures.ok),
      scale_refused (found_in c.args.given.now) _ _ (c.in_err-scale.ensures.err known),
    )))
