use Rattle.std.proofs.Common.{sym, refl, ◌∙◌}
use Rattle.plane_core.proofs.TestLemmas.{lie_off}
use Rattle.plane_core.proofs.spot.Spot.lie_of.Goals as goal

pub returns-else-is_along_x : goal.returns-else-is_along_x
returns-else-is_along_x c = lie_off _ _ _ (sym c.is_along_x.ensures ∙ c.if-is_along_x.false) refl refl refl
