use Rattle.nearest_core.proofs.QueueLemmas.{first_held, heap_least}
use Rattle.nearest_core.proofs.queue.Queue.first_square.Goals as goal

pub returns-clause-first : goal.returns-clause-first
returns-clause-first c = heap_least _ _ c.args.self.now.ordered c.in_ok-candidate.ensures.greatest

pub returns-clause-held : goal.returns-clause-held
returns-clause-held c = first_held _ _ c.in_ok-candidate.ensures.item.3.0 c.in_ok-candidate.ensures.lookup
