use Rattle.std.proofs.Common.{◌≡◌, ap, ◌∙◌, arith, map}
use Rattle.std.proofs.lemmas.List.Elements.{All-push, All-same}
use Rattle.deliver_core.specs.PassViews.{is_receiver, with_port, new_port, ports_of, taken_of, met_of}
use Rattle.deliver_core.specs.OutletCalls.{IsFreshPort}
use Rattle.deliver_core.specs.Ports.{index_of}
use Rattle.deliver_core.proofs.OutletRule.{begins, makes}
use Rattle.deliver_core.proofs.OutletCalls.{more_indexes, fresh_port}
use Rattle.deliver_core.proofs.outlet.Outlet.new.Goals as goal

pub ruled-requires : goal.ruled-requires
ruled-requires c = record { cap = omega arith; rule = begins }

pub another-own-requires-clause-rule : goal.another-own-requires-clause-rule
another-own-requires-clause-rule c = makes _ _ (ap is_receiver c.loop-index.invariant.seen)

pub loop-index-preserved : goal.loop-index-preserved
loop-index-preserved c =
    let before = c.loop-index.invariant in
    let same = c.another-own.ensures.queue.0 in
    let port = c.new-port.result in
    let fresh = fresh_port (record { queue = c.in_ok-queue.queue }) c.loop-index.index c.another-own.result port c.another-own.ensures.queue.1 c.new-port.ensures
    (c.another-own.ensures.rule.1 ∙ ap new_port before.seen) in
    record {
      pass = (same.0 ∙ before.pass.0, same.2 ∙ before.pass.1);
      seen = c.another-own.ensures.rule.0 ∙ ap with_port before.seen;
      indexes = ap (map index_of) c.push_reserved.ensures.items
          ∙ more_indexes c.loop-index.all.items port c.loop-index.index before.indexes c.new-port.ensures.numbered;
      fresh = All-same (IsFreshPort (record { queue = c.in_ok-queue.queue })) _ _ c.push_reserved.ensures.items
          (All-push (IsFreshPort (record { queue = c.in_ok-queue.queue })) c.loop-index.all.items port before.fresh fresh);
      len = omega (arith, c.push_reserved.ensures.len);
      room = omega (arith, c.push_reserved.ensures.capacity);
    }

pub returns-clause-tap : goal.returns-clause-tap
returns-clause-tap c =
    let before = c.loop-index.invariant in
    let all : c.loop-index.index ≡ c.args.ports = omega (arith, c.loop-index.auto.index-end, c.loop-index-test.false) in
    record { belongs = before.pass; count = ap ports_of before.seen ∙ all; idle = ap taken_of before.seen; alone = ap met_of before.seen }
