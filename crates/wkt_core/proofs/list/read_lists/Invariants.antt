use Rattle.std.proofs.Common.{length}
use Rattle.wkt_core.proofs.PointLemmas.{ListsSoFar}
use Rattle.wkt_core.proofs.list.read_lists.Given as goal

abbrev pub invariant-loop-next : goal.invariant-loop-next
invariant-loop-next l = ListsSoFar l.scale l.text l.after l.lists

abbrev pub decreases-loop-next : goal.decreases-loop-next
decreases-loop-next l = length l.after
