use Rattle.std.proofs.Common.{take}
use Rattle.rtree_core.specs.Windows.{Adds}
use Rattle.rtree_core.proofs.window.collect_entries.Given as goal

abbrev pub invariant-loop-entry : goal.invariant-loop-entry
invariant-loop-entry g l = Adds (g.W.Window.shape_of l.window) (take l.entry-index l.entries) l.initial.found.items l.found.items
