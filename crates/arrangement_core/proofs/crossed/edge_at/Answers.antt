use Rattle.std.proofs.Common.{sym, subst, ◌∙◌, take}
use Rattle.plane_core.specs.Places.{point_of}
use Rattle.arrangement_core.specs.declared.crossed.Met.{Met}
use Rattle.arrangement_core.specs.Crossed.{IsMet}
use Rattle.arrangement_core.proofs.MetLemmas.{met_skipped, met_first, met_again, met_whole}
use Rattle.arrangement_core.proofs.crossed.edge_at.Goals as goal

pub loop-f-preserved-then-not-here : goal.loop-f-preserved-then-not-here
loop-f-preserved-then-not-here c =
    met_skipped c.args.near.now c.loop-f.f-index c.f-item.result (point_of c.args.p.now.place) c.loop-f.met c.loop-f-test.true c.f-item.is (sym c.is_on-here.ensures ∙ c.if-not-here.true) c.loop-f.invariant

pub returns-then-not-is_asked : goal.returns-then-not-is_asked
returns-then-not-is_asked c = met_again c.args.near.now c.loop-f.f-index c.f-item.result (point_of c.args.p.now.place) c.loop-f-test.true c.f-item.is (sym c.is_on-here.ensures ∙ c.if-not-here.false)

pub returns-in_default : goal.returns-in_default
returns-in_default c = met_again c.args.near.now c.loop-f.f-index c.f-item.result (point_of c.args.p.now.place) c.loop-f-test.true c.f-item.is (sym c.is_on-here.ensures ∙ c.if-not-here.false)

pub loop-f-preserved : goal.loop-f-preserved
loop-f-preserved c =
    met_first c.args.near.now c.loop-f.f-index c.f-item.result (point_of c.args.p.now.place) c.loop-f-test.true c.f-item.is (sym c.is_on-here.ensures ∙ c.if-not-here.false)
    (subst (λ (m : Met). IsMet (take c.loop-f.f-index c.args.near.now) (point_of c.args.p.now.place) m) c.in-Nowhere.is c.loop-f.invariant)

pub returns : goal.returns
returns c = met_whole c.args.near.now c.loop-f.f-index (point_of c.args.p.now.place) c.loop-f.met c.loop-f-test.false c.loop-f.invariant
