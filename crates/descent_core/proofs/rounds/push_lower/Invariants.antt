use Rattle.std.proofs.Common.{take}
use Rattle.std.specs.List.{flat_map}
use Rattle.descent_core.specs.Steps.{nodes_of, AreTaken}
use Rattle.descent_core.proofs.RoundLemmas.{beside}
use Rattle.descent_core.proofs.rounds.push_lower.Given as goal

abbrev pub invariant-loop-left : goal.invariant-loop-left
invariant-loop-left l =
    AreTaken (flat_map (beside l.rights) (take l.left-index l.lefts)) (nodes_of l.initial.next.items) (nodes_of l.next.items)
