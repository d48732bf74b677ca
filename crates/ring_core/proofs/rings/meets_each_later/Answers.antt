use Rattle.std.proofs.Common.{ℕ, refl, get_or, subst, arith, below_more}
use Rattle.std.proofs.lemmas.List.{get_or_default}
use Rattle.ring_core.specs.Candidates.{MeetsLater}
use Rattle.ring_core.proofs.rings.meets_each_later.Goals as goal

pub returns : goal.returns
returns c = (
  λ k p d lt. subst (λ (m : ℕ). MeetsLater c.args.edges.now c.args.e.now c.args.i m)
      (get_or_default c.args.places.now p 0 d lt) (c.loop-k.invariant p (omega (arith, lt, c.loop-k-test.false))),
  λ k. refl,
)

pub loop-k-preserved : goal.loop-k-preserved
loop-k-preserved c = below_more (λ (p : ℕ). MeetsLater c.args.edges.now c.args.e.now c.args.i (get_or c.args.places.now p 0))
    c.loop-k.k-index c.loop-k.invariant (c.meets_later.ensures.0 c.if-not-meets_later.false)
