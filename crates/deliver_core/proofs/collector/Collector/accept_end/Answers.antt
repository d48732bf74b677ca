use Rattle.std.proofs.Common.{◌≡◌, Ok, arith, rules}
use Rattle.deliver_core.specs.Collectors.{awaited}
use Rattle.deliver_core.proofs.Histories.{Tells-end}
use Rattle.deliver_core.proofs.collector.Collector.accept_end.Goals as goal

pub invariant_of-self-2 : goal.invariant_of-self-2
invariant_of-self-2 c =
    let a = c.self.inside in
    let taking : Ok c.in_ok-batches.batches ≡ awaited c.args.self.now c.args.task = cc c.in_ok-batches.ensures in
    Tells-end a.progress.items a.marks.items c.self.invariant a.pairs.items c.args.self.now c.self.view_is c.args.task c.in_ok-batches.batches taking
    c.index_mut.result.now (search rules) c.args.count (omega arith) _ (cc)
