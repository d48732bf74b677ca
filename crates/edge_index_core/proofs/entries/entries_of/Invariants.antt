use Rattle.edge_index_core.proofs.EntryLemmas.{AreFirst}
use Rattle.edge_index_core.proofs.entries.entries_of.Given as goal

abbrev pub invariant-loop-i : goal.invariant-loop-i
invariant-loop-i l = AreFirst l.edges l.i l.entries.items
