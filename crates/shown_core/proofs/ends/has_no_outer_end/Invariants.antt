use Rattle.std.proofs.Common.{◌*◌, take}
use Rattle.shown_core.specs.Ends.{HasNoOuterEnd}
use Rattle.shown_core.proofs.ends.has_no_outer_end.Given as goal

abbrev pub invariant-loop-i : goal.invariant-loop-i
invariant-loop-i l = HasNoOuterEnd l.bounds (take (2 * l.i) l.ends)
