use Rattle.std.proofs.Common.{◌+◌, ◌*◌, ◌<◌, arith, length, sym, ◌∙◌}
use Rattle.shown_core.proofs.EndLemmas.{pair_more}
use Rattle.shown_core.proofs.ends.has_no_outer_end.Goals as goal

pub loop-i-preserved : goal.loop-i-preserved
loop-i-preserved c =
    let within : 2 * c.loop-i.i + 1 < length c.args.ends.now = omega (arith, c.loop-i-test.true, c.loop-i.auto.i-end) in
    pair_more c.args.bounds.now c.args.ends.now c.loop-i.i c.index-ends-i.result c.index-ends-i-in-loop-i.result within c.index-ends-i.is c.index-ends-i-in-loop-i.is
    (sym c.are_settled-settled.ensures ∙ c.if-not-settled.false) c.loop-i.invariant
