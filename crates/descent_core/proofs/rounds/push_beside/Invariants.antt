use Rattle.std.proofs.Common.{take}
use Rattle.std.specs.List.{flat_map}
use Rattle.descent_core.specs.Steps.{nodes_of, AreTaken}
use Rattle.descent_core.proofs.RoundLemmas.{alone}
use Rattle.descent_core.proofs.rounds.push_beside.Given as goal

abbrev pub invariant-loop-right : goal.invariant-loop-right
invariant-loop-right l =
    AreTaken (flat_map (alone l.left) (take l.right-index l.rights)) (nodes_of l.initial.next.items) (nodes_of l.next.items)
