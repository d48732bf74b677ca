use Rattle.std.proofs.Common.{rules}
use Rattle.wkt_core.proofs.HeldLemmas.{spanned_by}
use Rattle.wkt_core.proofs.form.spanned.Goals as goal

pub returns-clause-some : goal.returns-clause-some
returns-clause-some c = search (rules, spanned_by)

pub returns-clause-none : goal.returns-clause-none
returns-clause-none c = search (rules, spanned_by)
