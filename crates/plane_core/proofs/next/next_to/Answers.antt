use Rattle.std.proofs.Common.{◌≡◌, rules, of_z, to_z, w64, sym, subst}
use Rattle.std.specs.Prelude.{nat_abs}
use Rattle.std.proofs.lemmas.Int.{to_z-of_z}
use Rattle.plane_core.specs.Meetings.{part_of_way}
use Rattle.plane_core.specs.Spots.{IsFloor, IsCeiling}
use Rattle.plane_core.proofs.QuotientLemmas.{held_unit, within_unit, end_held, end_floor, end_ceiling, floor_held, ceiling_held}
use Rattle.plane_core.proofs.next.next_to.Goals as goal

pub end_at-whole-requires-clause-not_beyond : goal.end_at-whole-requires-clause-not_beyond
end_at-whole-requires-clause-not_beyond c = within_unit c.args.n c.args.w c.ranges.n c.ranges.w c.requires.not_beyond c.if-w-eq1.true

pub returns-then-w-eq1-clause-floor : goal.returns-then-w-eq1-clause-floor
returns-then-w-eq1-clause-floor c =
    let own : to_z w64 (of_z w64 c.end_at-whole.result) ≡ c.end_at-whole.result = search (rules, to_z-of_z) in
    subst (IsFloor (nat_abs c.args.w) (part_of_way c.args.a c.args.b c.args.n c.args.w)) (sym own) (
    end_floor c.args.a c.args.b c.args.n c.args.w c.end_at-whole.result c.requires.positive (held_unit c.args.w c.ranges.w c.if-w-eq1.true)
    (end_held c.end_at-whole.result c.args.a c.args.b c.args.n c.requires.a c.requires.b c.ranges.n c.end_at-whole.ensures))

pub returns-then-w-eq1-clause-ceiling : goal.returns-then-w-eq1-clause-ceiling
returns-then-w-eq1-clause-ceiling c =
    let own : to_z w64 (of_z w64 c.end_at-whole.result) ≡ c.end_at-whole.result = search (rules, to_z-of_z) in
    subst (IsCeiling (nat_abs c.args.w) (part_of_way c.args.a c.args.b c.args.n c.args.w)) (sym own) (
    end_ceiling c.args.a c.args.b c.args.n c.args.w c.end_at-whole.result c.requires.positive (held_unit c.args.w c.ranges.w c.if-w-eq1.true)
    (end_held c.end_at-whole.result c.args.a c.args.b c.args.n c.requires.a c.requires.b c.ranges.n c.end_at-whole.ensures))

pub returns-else-w-eq1-clause-floor : goal.returns-else-w-eq1-clause-floor
returns-else-w-eq1-clause-floor c = floor_held c.args.a c.args.b c.args.n c.args.w _ c.requires.a c.requires.b c.ranges.n c.ranges.w c.divided.ensures.floor

pub returns-else-w-eq1-clause-ceiling : goal.returns-else-w-eq1-clause-ceiling
returns-else-w-eq1-clause-ceiling c = ceiling_held c.args.a c.args.b c.args.n c.args.w _ c.requires.a c.requires.b c.ranges.n c.ranges.w c.divided.ensures.ceiling
