use Rattle.std.proofs.Common.{arith, sym}
use Rattle.std.proofs.lemmas.Grind.{common_steps}
use Rattle.run_core.proofs.MarkLemmas.{no_numbers, numbers_behind, numbers_from, one_skipped, skipped_to}
use Rattle.run_core.proofs.marks.past_skipped.Goals as goal

pub returns-then-other-number : goal.returns-then-other-number
returns-then-other-number c =
    skipped_to _ _ _ _ _ c.loop-i.invariant (numbers_behind c.args.skipped.now c.loop-i.i)
    (rw (sym (numbers_behind c.args.skipped.now c.loop-i.i), numbers_from c.args.skipped.now c.loop-i.i c.index-skipped-i.result c.loop-i-test.true c.index-skipped-i.is)
    c.if-other-number.true)

pub loop-i-preserved : goal.loop-i-preserved
loop-i-preserved c =
    one_skipped _ _ _ _ c.index-skipped-i.result.row _ _ c.loop-i.invariant
    (numbers_from c.args.skipped.now c.loop-i.i c.index-skipped-i.result c.loop-i-test.true c.index-skipped-i.is) c.if-other-number.false
    (grind (arith, common_steps))

pub returns : goal.returns
returns c = skipped_to _ _ _ _ _ c.loop-i.invariant (no_numbers c.args.skipped.now c.loop-i.i c.loop-i-test.false) tt
