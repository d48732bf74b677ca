use Rattle.std.proofs.Common.{rules}
use Rattle.number_core.proofs.FractionLemmas.{digit_printed}
use Rattle.number_core.proofs.printer.push_decimals.Goals as goal

pub loop-rest-preserved : goal.loop-rest-preserved
loop-rest-preserved c =
    let (k, place, small, text) = c.loop-rest.invariant in
    digit_printed k _ _ _ _ _ _ place small c.loop-rest-test.true (search rules) c.format-digit.ensures.text text
