use Rattle.descent_core.specs.Steps.{nodes_of}
use Rattle.descent_core.proofs.GoingLemmas.{AreReached}
use Rattle.descent_core.proofs.rounds.go_down.Given as goal

abbrev pub invariant-loop : goal.invariant-loop
invariant-loop l = AreReached (nodes_of l.initial.tasks.items) l.counter (nodes_of l.tasks.items)
