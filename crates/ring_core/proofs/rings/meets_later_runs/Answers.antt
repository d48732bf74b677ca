use Rattle.std.proofs.Common.{List, All, refl, subst}
use Rattle.std.proofs.lemmas.List.{take_all}
use Rattle.std.proofs.lemmas.List.Elements.{All-nil, All-more}
use Rattle.plane_core.specs.declared.edge.Edge.{Edge}
use Rattle.ring_core.proofs.RingLemmas.{true_false}
use Rattle.ring_core.proofs.RunLemmas.{MeetAll, item_met}
use Rattle.ring_core.proofs.rings.meets_later_runs.Goals as goal

pub loop-e-init : goal.loop-e-init
loop-e-init c = All-nil _

pub returns-then-not-meets_runs : goal.returns-then-not-meets_runs
returns-then-not-meets_runs c = (
  λ k. absurd (true_false k),
  λ all. absurd (true_false (rw c.if-not-meets_runs.true at (c.meets_runs.ensures.1
      (item_met c.args.edges.now c.args.run.now c.loop-e.e-index c.e-item.result c.loop-e-test.true c.e-item.is all)))),
)

pub loop-e-preserved : goal.loop-e-preserved
loop-e-preserved c =
    All-more (MeetAll c.args.edges.now) c.args.run.now c.loop-e.e-index c.e-item.result c.loop-e-test.true c.loop-e.invariant
    (subst (MeetAll c.args.edges.now) c.e-item.is (c.meets_runs.ensures.0 c.if-not-meets_runs.false))

pub returns : goal.returns
returns c = (
  λ k. subst (All (MeetAll c.args.edges.now)) (take_all c.loop-e.e-index c.args.run.now c.loop-e-test.false) c.loop-e.invariant,
  λ k. refl,
)
