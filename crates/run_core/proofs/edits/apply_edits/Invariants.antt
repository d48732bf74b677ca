use Rattle.std.specs.Vec.Iter.{into_iter_items}
use Rattle.layer_core.specs.Edits.{both}
use Rattle.run_core.proofs.EditsLemmas.{Done}
use Rattle.run_core.proofs.edits.apply_edits.Given as goal

abbrev pub invariant-loop-edit : goal.invariant-loop-edit
invariant-loop-edit g l =
    Done l.row (both l.initial.left.list l.initial.right.list) (both l.left.list l.right.list) l.fn.edits.items (into_iter_items l.edit-iterator)
