use Rattle.nearest_core.proofs.QueueLemmas.{heap_pushed}
use Rattle.nearest_core.proofs.queue.Queue.push.Goals as goal

pub returns : goal.returns
returns c = heap_pushed _ _ _ c.in_ok-push.ensures.permutation
