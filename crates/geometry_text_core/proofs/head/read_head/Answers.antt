use Rattle.geometry_text_core.proofs.EachLemmas.{when_none}
use Rattle.geometry_text_core.proofs.OnlyLemmas.{no_head}
use Rattle.geometry_text_core.proofs.head.read_head.Goals as goal

pub returns-in_err-heading-clause-none : goal.returns-in_err-heading-clause-none
returns-in_err-heading-clause-none c =
    when_none c.from_residual-in_err-heading.result
    (no_head c.args.bytes.now c.in_ok-order.rest.now c.in_ok-order.order c.in_ok-order.ensures.some c.in_err-heading.ensures.none)
