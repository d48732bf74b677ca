use Rattle.std.proofs.Common.{arith, refl, below_more}
use Rattle.ring_core.proofs.RingLemmas.{IsProperAt, all_proper, later_all, all_later, true_false}
use Rattle.ring_core.proofs.rings.are_all_proper.Goals as goal

pub loop-i-init : goal.loop-i-init
loop-i-init c = λ i lt. absurd (omega (arith, lt))

pub returns-then-not-meets_all : goal.returns-then-not-meets_all
returns-then-not-meets_all c = (
  λ k. absurd (true_false k),
  λ proper. absurd (true_false (rw c.if-not-meets_all.true at (c.meets_all.ensures.1 (all_later c.args.edges.now c.index-edges-i.result c.loop-i.i c.loop-i-test.true c.index-edges-i.is proper)))),
)

pub loop-i-preserved : goal.loop-i-preserved
loop-i-preserved c = below_more (IsProperAt c.args.edges.now) c.loop-i.i c.loop-i.invariant
    (later_all c.args.edges.now c.index-edges-i.result c.loop-i.i c.loop-i-test.true c.index-edges-i.is (c.meets_all.ensures.0 c.if-not-meets_all.false))

pub returns : goal.returns
returns c = (λ k. all_proper c.args.edges.now c.loop-i.i c.loop-i-test.false c.loop-i.invariant, λ k. refl)
