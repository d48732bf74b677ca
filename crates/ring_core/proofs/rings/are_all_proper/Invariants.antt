use Rattle.ring_core.proofs.RingLemmas.{AreProperBelow}
use Rattle.ring_core.proofs.rings.are_all_proper.Given as goal

abbrev pub invariant-loop-i : goal.invariant-loop-i
invariant-loop-i l = AreProperBelow l.edges l.i
