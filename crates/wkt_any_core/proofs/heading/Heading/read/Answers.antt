use Rattle.wkt_core.proofs.PointLemmas.{if_none}
use Rattle.wkt_any_core.proofs.HeadingLemmas.{no_many, no_heading}
use Rattle.wkt_any_core.proofs.heading.Heading.read.Goals as goal

pub returns-in_err-keyword-in-Some-clause-none : goal.returns-in_err-keyword-in-Some-clause-none
returns-in_err-keyword-in-Some-clause-none c =
    if_none _ (no_many c.args.text.now c.in-Some.behind.now c.in-Some.ensures.some c.in_err-keyword-in-Some.ensures.none)

pub returns-in_err-keyword-in-None-clause-none : goal.returns-in_err-keyword-in-None-clause-none
returns-in_err-keyword-in-None-clause-none c =
    if_none _ (no_heading c.args.text.now c.in-None.ensures.none c.in_err-keyword-in-None.ensures.none)
