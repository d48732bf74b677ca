use Rattle.std.proofs.Common.{◌≡◌, Ok, arith, rules}
use Rattle.std.proofs.lemmas.Grind.{common_steps}
use Rattle.deliver_core.specs.Collectors.{awaited}
use Rattle.deliver_core.proofs.Histories.{next-le-length, Tells-batch}
use Rattle.deliver_core.proofs.collector.Collector.accept_batch.Goals as goal

-- a task has no more batches than there are marks, and the marks have room for one more
pub overflow_add-index_mut : goal.overflow_add-index_mut
overflow_add-index_mut c =
    let a = c.self.inside in
    let taking : Ok c.in_ok-next.next ≡ awaited c.args.self.now c.args.task = cc c.in_ok-next.ensures in
    let few = next-le-length a.progress.items a.marks.items c.self.invariant a.pairs.items c.args.self.now c.self.view_is c.args.task c.in_ok-next.next
    taking c.index_mut.result.now c.index_mut.ensures.value in
    grind (arith, common_steps)

pub invariant_of-self-2 : goal.invariant_of-self-2
invariant_of-self-2 c =
    let a = c.self.inside in
    let taking : Ok c.in_ok-next.next ≡ awaited c.args.self.now c.args.task = cc c.in_ok-next.ensures in
    Tells-batch a.progress.items a.marks.items c.self.invariant a.pairs.items c.args.self.now c.self.view_is c.args.task c.in_ok-next.next taking
    _ (search rules) c.args.number (omega arith) _ (cc)
