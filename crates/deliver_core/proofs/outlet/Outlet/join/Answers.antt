use Rattle.std.proofs.Common.{◌∙◌, ap, sym, subst}
use Rattle.crossbeam_queue.specs.Passes.{view}
use Rattle.deliver_core.specs.declared.pass_view.PassView.{PassView}
use Rattle.deliver_core.specs.PassViews.{sender_of, is_receiver}
use Rattle.deliver_core.specs.OutletSteps.{TellsWaiting}
use Rattle.deliver_core.proofs.OutletRule.{meets, waits}
use Rattle.deliver_core.proofs.OutletCalls.{the_index, after_meet, receiver_after_meet}
use Rattle.deliver_core.proofs.outlet.Outlet.join.Goals as goal

pub absorb-requires-clause-rule : goal.absorb-requires-clause-rule
absorb-requires-clause-rule c = meets _ _ _ _ _ c.requires.receiver (the_index (sender_of (view c.args.port)) c.requires.sender).1

pub learn_as-requires-clause-rule : goal.learn_as-requires-clause-rule
learn_as-requires-clause-rule c = waits _ _ (ap is_receiver c.absorb.ensures.rule ∙ receiver_after_meet _ _ c.requires.receiver)

pub returns-clause-met : goal.returns-clause-met
returns-clause-met c =
    let items = c.learn_as.ensures.rule.0 in
    let same = c.learn_as.ensures.queue.1 in
    let told = subst (λ (w : PassView). TellsWaiting w items) (sym same) c.learn_as.ensures.rule.1 in
    after_meet (view c.args.pass.now) (view c.args.port) (view c.learn_as.new.pass) items c.requires.receiver c.requires.sender
    (same ∙ c.absorb.ensures.rule) told
