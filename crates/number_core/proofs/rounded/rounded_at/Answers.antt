use Rattle.std.proofs.Common.{◌++◌}
use Rattle.number_core.proofs.RoundedLemmas.{cut_rounded}
use Rattle.number_core.proofs.rounded.rounded_at.Goals as goal

pub returns : goal.returns
returns c =
    cut_rounded (c.args.digits.now ++ c.args.decimals.now) c.args.place _ _ _ c.digit_at-up.ensures c.digits_before-sum.ensures c.rounded_up.ensures
