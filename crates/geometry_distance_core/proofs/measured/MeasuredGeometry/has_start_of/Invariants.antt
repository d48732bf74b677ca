use Rattle.geometry_distance_core.proofs.StartLemmas.{HaveNoneTo}
use Rattle.geometry_distance_core.proofs.measured.MeasuredGeometry.has_start_of.Given as goal

abbrev pub invariant-loop-i : goal.invariant-loop-i
invariant-loop-i l = HaveNoneTo l.other l.self l.i
