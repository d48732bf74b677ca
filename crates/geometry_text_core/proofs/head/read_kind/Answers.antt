use Rattle.geometry_text_core.proofs.EachLemmas.{when_none}
use Rattle.geometry_text_core.proofs.OnlyLemmas.{no_kind, no_kind_behind}
use Rattle.geometry_text_core.proofs.head.read_kind.Goals as goal

pub returns-in_err-code-clause-none : goal.returns-in_err-code-clause-none
returns-in_err-code-clause-none c = when_none c.from_residual.result (no_kind c.args.order c.args.bytes.now c.in_err-code.ensures.none)

pub returns-in_err-behind-clause-none : goal.returns-in_err-behind-clause-none
returns-in_err-behind-clause-none c =
    when_none c.from_residual-in_err-behind.result
    (no_kind_behind c.args.order c.args.bytes.now c.in_ok-code.rest.now c.in_ok-code.code c.in_ok-code.ensures.some c.if-code-lt-SRID_FLAG.false c.in_err-behind.ensures.none)
