use Rattle.std.proofs.Common.{arith}
use Rattle.deliver_core.proofs.Histories.{counter}
use Rattle.deliver_core.proofs.collector.Collector.awaited.Goals as goal

pub returns : goal.returns
returns c = grind (arith, counter)
