use Rattle.std.proofs.Common.{rules}
use Rattle.wkt_any_core.proofs.raw.takes_rings.Goals as goal

pub returns-in-Proper : goal.returns-in-Proper
returns-in-Proper c = rw c.in-Proper.is (search rules)
