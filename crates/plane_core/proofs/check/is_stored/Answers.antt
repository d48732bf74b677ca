use Rattle.std.proofs.Common.{sym, ◌∙◌}
use Rattle.plane_core.proofs.CheckLemmas.{cuts_for_fact}
use Rattle.plane_core.proofs.check.is_stored.Goals as goal

pub is_filled-requires : goal.is_filled-requires
is_filled-requires c = cuts_for_fact _ _ _ (sym c.are_cuts_for.ensures ∙ c.if-are_cuts_for.true)
