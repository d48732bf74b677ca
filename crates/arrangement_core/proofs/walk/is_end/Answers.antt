use Rattle.std.proofs.Common.{sym, ◌∙◌}
use Rattle.plane_core.specs.Places.{point_of}
use Rattle.noding_core.proofs.OffPartLemmas.{first_on, last_on}
use Rattle.arrangement_core.proofs.walk.is_end.Goals as goal

pub returns-then-is_at : goal.returns-then-is_at
returns-then-is_at c = λ h. first_on c.args.e.now (point_of c.args.p.now.place) (sym c.is_at.ensures ∙ c.if-is_at.true)

pub returns-else-is_at : goal.returns-else-is_at
returns-else-is_at c = λ h. last_on c.args.e.now (point_of c.args.p.now.place) (sym c.is_at-else-is_at.ensures ∙ h)
