use Rattle.std.proofs.Common.{◌≡◌, ◌≤◌, length, vec_capacity}
use Rattle.refine_core.proofs.in_order.empty_rows.Given as goal

abbrev pub invariant-loop : goal.invariant-loop
invariant-loop g l = record {
  count : length l.rows.items ≡ l.counter;
  room : l.chunks ≤ vec_capacity l.rows;
}
