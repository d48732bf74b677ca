use Rattle.std.proofs.Common.{arith, refl, below_more}
use Rattle.ring_core.proofs.RingLemmas.{IsProperAt, all_proper, near_proper, near_met, true_false}
use Rattle.ring_core.proofs.rings.are_near_proper.Goals as goal

pub loop-i-init : goal.loop-i-init
loop-i-init c = λ i lt. absurd (omega (arith, lt))

pub returns-then-not-meets_each_later : goal.returns-then-not-meets_each_later
returns-then-not-meets_each_later c = (
  λ k. absurd (true_false k),
  λ proper. absurd (true_false (rw c.if-not-meets_each_later.true at (c.meets_each_later.ensures.1 (near_met c.args.edges.now c.index-edges-i.result c.loop-i.i _ c.loop-i-test.true c.index-edges-i.is proper)))),
)

pub loop-i-preserved : goal.loop-i-preserved
loop-i-preserved c = below_more (IsProperAt c.args.edges.now) c.loop-i.i c.loop-i.invariant
    (near_proper c.args.edges.now c.index-edges-i.result c.loop-i.i c.bounds_of.result _ _ c.loop-i-test.true c.index-edges-i.is c.bounds_of.ensures c.requires
    (rw c.deref.ensures.value c.in_ok-near.ensures.all) (c.meets_each_later.ensures.0 c.if-not-meets_each_later.false))

pub returns : goal.returns
returns c = (λ k. all_proper c.args.edges.now c.loop-i.i c.loop-i-test.false c.loop-i.invariant, λ k. refl)
