use Rattle.std.proofs.Common.{sym, rules}
use Rattle.layer_edit_core.proofs.IdLemmas.{last_decides}
use Rattle.layer_edit_core.proofs.ids.comes_after.Goals as goal

pub returns-in-Some : goal.returns-in-Some
returns-in-Some c = last_decides c.args.rising.now c.requires c.args.id.now c.in-Some.last.now _ (sym c.in-Some.ensures.value) (search rules)
