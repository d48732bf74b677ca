use Rattle.std.proofs.Common.{◌≡◌, ◌≤◌, [], All, map, vec_len, vec_capacity}
use Rattle.std.specs.List.{range_with_len}
use Rattle.crossbeam_queue.specs.Passes.{view, IsPassOf}
use Rattle.deliver_core.specs.declared.pass_view.PassView.TheVariants.{Receiver}
use Rattle.deliver_core.specs.OutletCalls.{IsFreshPort}
use Rattle.deliver_core.specs.Ports.{index_of}
use Rattle.deliver_core.proofs.outlet.Outlet.new.Given as goal

abbrev pub invariant-loop-index : goal.invariant-loop-index
invariant-loop-index l = record {
  pass : IsPassOf l.queue l.pass;
  seen : view l.pass ≡ Receiver l.index [] [];
  indexes : map index_of l.all.items ≡ range_with_len 0 l.index;
  fresh : All (IsFreshPort (record { queue = l.queue })) l.all.items;
  len : vec_len l.all ≡ l.index;
  room : l.ports ≤ vec_capacity l.all;
}
