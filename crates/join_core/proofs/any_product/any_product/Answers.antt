use Rattle.join_core.proofs.ProductLemmas.{plain_is_product}
use Rattle.join_core.proofs.any_product.any_product.Goals as goal

pub returns-in-Report-clause-ok : goal.returns-in-Report-clause-ok
returns-in-Report-clause-ok g c = rw c.in-Report.is c.report.ensures.ok

pub returns-in-Pairs-clause-ok : goal.returns-in-Pairs-clause-ok
returns-in-Pairs-clause-ok g c = rw c.in-Pairs.is c.pair_report.ensures.ok

pub returns-in-Firsts-clause-ok : goal.returns-in-Firsts-clause-ok
returns-in-Firsts-clause-ok g c = rw c.in-Firsts.is c.first_report.ensures.ok

pub returns-in_default-clause-ok : goal.returns-in_default-clause-ok
returns-in_default-clause-ok g c = plain_is_product _ _ _ c.listed.result c.in_default.not-Report c.in_default.not-Firsts c.listed.ensures.ok
