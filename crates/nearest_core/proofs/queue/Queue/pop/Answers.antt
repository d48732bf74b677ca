use Rattle.nearest_core.proofs.QueueLemmas.{heap_popped, heap_first}
use Rattle.nearest_core.proofs.queue.Queue.pop.Goals as goal

pub returns-clause-others : goal.returns-clause-others
returns-clause-others c = heap_popped _ _ _ c.in_ok-candidate.ensures.permutation

pub returns-clause-first : goal.returns-clause-first
returns-clause-first c = heap_first _ _ _ c.args.self.now.ordered c.in_ok-candidate.ensures.below_top
