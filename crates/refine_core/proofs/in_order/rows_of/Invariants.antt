use Rattle.std.proofs.Common.{◌≡◌, ◌++◌, ℕ, Contains, length}
use Rattle.std.specs.Vec.Iter.{into_iter_items}
use Rattle.refine_core.specs.Parts.{numbers_of, HasRow}
use Rattle.refine_core.proofs.in_order.rows_of.Given as goal

abbrev pub invariant-loop-part : goal.invariant-loop-part
invariant-loop-part g l = record {
  parts : l.yielded ++ into_iter_items l.part-iterator ≡ l.fn.parts.items;
  len : length l.rows.items ≡ l.chunks;
  rows : (number : ℕ) → Contains (numbers_of l.yielded) number → HasRow l.yielded l.rows.items number;
}
