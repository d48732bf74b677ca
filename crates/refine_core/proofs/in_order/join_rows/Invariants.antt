use Rattle.std.proofs.Common.{◌≡◌, ◌++◌}
use Rattle.std.specs.List.{flat_map}
use Rattle.std.specs.Vec.Iter.{into_iter_items}
use Rattle.refine_core.proofs.in_order.join_rows.Given as goal

abbrev pub invariant-loop-row : goal.invariant-loop-row
invariant-loop-row g l = record {
  rows : l.yielded ++ into_iter_items l.row-iterator ≡ l.fn.rows.items;
  all : l.all.items ≡ flat_map (λ row. row.items) l.yielded;
}
