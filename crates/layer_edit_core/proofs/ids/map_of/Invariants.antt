use Rattle.std.proofs.Common.{◌≡◌, ◌++◌}
use Rattle.std.specs.Vec.Iter.{into_iter_items}
use Rattle.layer_edit_core.proofs.ids.map_of.Given as goal

-- the entries so far, and those that are left, are all
abbrev pub invariant-loop-id : goal.invariant-loop-id
invariant-loop-id l = l.others.entries ++ into_iter_items l.id-iterator ≡ l.fn.entries.items
