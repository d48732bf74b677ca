use Rattle.std.proofs.Common.{sym, ◌∙◌}
use Rattle.plane_core.specs.Places.{point_of}
use Rattle.arrangement_core.proofs.OutsideLemmas.{outside_at}
use Rattle.arrangement_core.proofs.outside.is_end_outside.Goals as goal

pub returns-then-is_at : goal.returns-then-is_at
returns-then-is_at c = λ h. outside_at c.args.bounds.now c.args.e.now.a (point_of c.args.p.now) (sym c.is_at.ensures ∙ c.if-is_at.true) (sym c.is_outside.ensures ∙ h)

pub returns-then-is_at-2 : goal.returns-then-is_at-2
returns-then-is_at-2 c = λ h. outside_at c.args.bounds.now c.args.e.now.b (point_of c.args.p.now) (sym c.is_at-else-is_at.ensures ∙ c.if-is_at-2.true) (sym c.is_outside-then-is_at-2.ensures ∙ h)
