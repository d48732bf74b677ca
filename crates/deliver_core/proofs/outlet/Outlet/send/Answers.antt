use Rattle.std.proofs.Common.{◌≡◌, Some, false}
use Rattle.crossbeam_queue.specs.Passes.{view}
use Rattle.deliver_core.specs.Byes.{has_bye}
use Rattle.deliver_core.specs.PassViews.{sender_of, sent_of, with_sent}
use Rattle.deliver_core.proofs.OutletRule.{sends}
use Rattle.deliver_core.proofs.OutletCalls.{after_send}
use Rattle.deliver_core.proofs.outlet.Outlet.send.Goals as goal

pub push_as-pushed-requires-clause-rule : goal.push_as-pushed-requires-clause-rule
push_as-pushed-requires-clause-rule g c =
    let sender : sender_of (view c.loop.pass) ≡ Some c.loop.message.port = cc in
    let quiet : has_bye (sent_of (view c.loop.pass)) ≡ false = cc in
    (sends _ _ _ _ sender quiet, λ items views d at. tt)

pub returns-in-Ok-clause-sent : goal.returns-in-Ok-clause-sent
returns-in-Ok-clause-sent g c =
    let after : view c.push_as-pushed.new.pass ≡ with_sent (view c.args.pass.now) c.args.message = cc (c.in-Ok.ensures.rule) in
    after_send c.args.message (view c.args.pass.now) (view c.push_as-pushed.new.pass) c.requires.sender c.requires.open after
