use Rattle.std.proofs.Common.{w64, ◌∙◌}
use Rattle.std.proofs.lemmas.Int.{to_z-of_z}
use Rattle.plane_core.proofs.QuotientLemmas.{first_end, last_end, held_zero, held_one}
use Rattle.plane_core.proofs.next.end_at.Goals as goal

pub returns-then-n-eq0 : goal.returns-then-n-eq0
returns-then-n-eq0 c =
    to_z-of_z w64 c.args.a c.ranges.a ∙ first_end c.args.a c.args.b c.args.n (held_zero c.args.n c.ranges.n c.if-n-eq0.true)

pub returns-else-n-eq0 : goal.returns-else-n-eq0
returns-else-n-eq0 c =
    to_z-of_z w64 c.args.b c.ranges.b
    ∙ last_end c.args.a c.args.b c.args.n (held_one c.args.n c.ranges.n c.requires.not_before c.requires.not_beyond c.if-n-eq0.false)
