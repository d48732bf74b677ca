use Rattle.std.proofs.Common.{◌∙◌, sym}
use Rattle.std.proofs.lemmas.Bool.{false≢true}
use Rattle.distance_core.proofs.RootLemmas.{narrow_floored, rounded_up, rounded_unless}
use Rattle.distance_core.proofs.fraction.SquaredFraction.narrow_root.Goals as goal

pub returns-then-is_root_from : goal.returns-then-is_root_from
returns-then-is_root_from c =
    rounded_up _ c.args.self.now.denominator c.floor_root-root.result
    (narrow_floored c.args.self.now.numerator.high c.args.self.now.numerator.low _ _ c.requires c.args.self.now.positive
    c.floor_root-root.ensures.square_le c.floor_root-root.ensures.next_square_gt)
    (c.is_root_from.ensures.0 c.if-is_root_from.true)

pub returns-else-is_root_from : goal.returns-else-is_root_from
returns-else-is_root_from c =
    rounded_unless _ c.args.self.now.denominator c.floor_root-root.result
    (narrow_floored c.args.self.now.numerator.high c.args.self.now.numerator.low _ _ c.requires c.args.self.now.positive
    c.floor_root-root.ensures.square_le c.floor_root-root.ensures.next_square_gt)
    (λ from. false≢true (sym c.if-is_root_from.false ∙ c.is_root_from.ensures.1 from))
