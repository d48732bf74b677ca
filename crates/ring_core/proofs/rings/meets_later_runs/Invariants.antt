use Rattle.std.proofs.Common.{All, take}
use Rattle.ring_core.proofs.RunLemmas.{MeetAll}
use Rattle.ring_core.proofs.rings.meets_later_runs.Given as goal

abbrev pub invariant-loop-e : goal.invariant-loop-e
invariant-loop-e l = All (MeetAll l.edges) (take l.e-index l.run)
