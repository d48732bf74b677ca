use Rattle.std.proofs.Common.{take}
use Rattle.geometry_distance_core.specs.NearestPairs.{AddsEntries}
use Rattle.geometry_distance_core.proofs.search.with_entries.Given as goal

abbrev pub invariant-loop-entry : goal.invariant-loop-entry
invariant-loop-entry l = AddsEntries l.e l.fs (take l.entry-index l.entries) l.fn.nearest l.found
