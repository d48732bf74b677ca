use Rattle.geometry_text_core.proofs.EachLemmas.{when_none}
use Rattle.geometry_text_core.proofs.body.read_count.Goals as goal

pub returns-in_err-count-clause-none : goal.returns-in_err-count-clause-none
returns-in_err-count-clause-none c = when_none c.from_residual.result (λ n rest some h. c.in_err-count.ensures.none n rest h)
