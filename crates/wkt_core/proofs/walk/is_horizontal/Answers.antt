use Rattle.std.proofs.Common.{arith}
use Rattle.wkt_core.proofs.HeldLemmas.{held}
use Rattle.wkt_core.proofs.walk.is_horizontal.Goals as goal

pub returns-then-q-r : goal.returns-then-q-r
returns-then-q-r c = grind (arith, held)

pub returns-else-q-r : goal.returns-else-q-r
returns-else-q-r c = grind (arith, held)
