use Rattle.std.proofs.Common.{◌≡◌}
use Rattle.crossbeam_queue.specs.Passes.{view, IsSamePass}
use Rattle.deliver_core.proofs.outlet.Outlet.send.Given as goal

abbrev pub invariant-loop : goal.invariant-loop
invariant-loop g l = record {
  pass : IsSamePass l.initial.pass l.pass;
  seen : view l.pass ≡ view l.initial.pass;
  message : l.message ≡ l.initial.message;
}
