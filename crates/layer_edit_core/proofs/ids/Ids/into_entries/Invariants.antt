use Rattle.std.proofs.Common.{◌≡◌, ◌+◌, ◌≤◌, ◌++◌, length}
use Rattle.std.specs.Prelude.{vec_len, vec_capacity}
use Rattle.layer_edit_core.proofs.ids.Ids.into_entries.Given as goal

-- the entries so far, and those that are left, are all, and there is room for the latter
abbrev pub invariant-loop-entry : goal.invariant-loop-entry
invariant-loop-entry l =
    (l.entries.items ++ l.entry-iterator ≡ l.initial.entries.items ++ l.initial.entry-iterator)
    × (vec_len l.entries + length l.entry-iterator ≤ vec_capacity l.entries)
