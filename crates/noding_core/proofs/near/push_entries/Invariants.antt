use Rattle.std.proofs.Common.{All, take}
use Rattle.plane_core.specs.declared.edge.Edge.{Edge}
use Rattle.edge_index_core.specs.Bounds.{IsBoxOf}
use Rattle.noding_core.specs.Gathered.{Extends}
use Rattle.noding_core.specs.Near.{IsEntryFound, AddsAmong}
use Rattle.noding_core.proofs.near.push_entries.Given as goal

abbrev pub invariant-loop-entry : goal.invariant-loop-entry
invariant-loop-entry l = record {
  kept : Extends l.fn.near.items l.near.items;
  own : AddsAmong l.edges l.fn.near.items l.near.items;
  found : (e : Edge) → IsBoxOf e l.bounds → All (IsEntryFound e l.edges l.near.items) (take l.entry-index l.entries);
}
