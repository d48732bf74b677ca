use Rattle.shown_core.proofs.ShownLemmas.{shown_row}
use Rattle.shown_core.proofs.shown.are_shown.Goals as goal

pub returns : goal.returns
returns c = shown_row c.args.row.now c.args.parts.now c.args.extent _ _ _ c.is_shown-interior.ensures c.is_shown-boundary.ensures c.is_shown-exterior.ensures
