use Rattle.std.proofs.Common.{rules, subst, arith}
use Rattle.std.proofs.lemmas.List.{take_all}
use Rattle.refine_core.specs.Refinements.{AreRefined, none}
use Rattle.refine_core.proofs.RefinementLemmas.{pair_more}
use Rattle.refine_core.proofs.worker.refine_each.Goals as goal

pub loop-pair-init : goal.loop-pair-init
loop-pair-init g c = rw c.in_ok-refined.ensures.items none

pub loop-pair-preserved : goal.loop-pair-preserved
loop-pair-preserved g c =
    pair_more (g.C.Condition.stands c.args.condition.now) (g.C.Condition.answers c.args.condition.now) c.args.pairs.now c.loop-pair.pair-index
    (0, 0) c.loop-pair.refined.items c.push_found.new.refined.items c.in_ok-found.found c.loop-pair-test.true
    c.loop-pair.invariant (search rules) c.in_ok-found.ensures

pub returns : goal.returns
returns g c =
    let are = AreRefined (g.C.Condition.stands c.args.condition.now) (g.C.Condition.answers c.args.condition.now) in
    subst (λ pairs. are pairs c.loop-pair.refined.items) (take_all c.loop-pair.pair-index c.args.pairs.now (omega (arith, c.loop-pair-test.false))) c.loop-pair.invariant
