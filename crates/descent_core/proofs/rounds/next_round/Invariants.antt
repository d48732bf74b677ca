use Rattle.std.proofs.Common.{[], take}
use Rattle.std.specs.List.{flat_map}
use Rattle.descent_core.specs.Depths.{lower_pairs}
use Rattle.descent_core.specs.Steps.{nodes, nodes_of, AreTaken}
use Rattle.descent_core.proofs.rounds.next_round.Given as goal

abbrev pub invariant-loop-task : goal.invariant-loop-task
invariant-loop-task l = AreTaken (flat_map (λ t. lower_pairs (nodes t)) (take l.task-index l.tasks)) [] (nodes_of l.next.items)
