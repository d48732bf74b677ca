use Rattle.std.proofs.Common.{arith}
use Rattle.std.proofs.lemmas.Int.{ints}
use Rattle.distance_core.proofs.AxisLemmas.{gap_above, gap_below, no_gap}
use Rattle.distance_core.proofs.gap.gap.Goals as goal

pub returns-then-a-b-clause-least : goal.returns-then-a-b-clause-least
returns-then-a-b-clause-least c = gap_above c.args.a.now c.args.b.now _ (omega (arith, ints))

pub returns-then-b-a-clause-least : goal.returns-then-b-a-clause-least
returns-then-b-a-clause-least c = gap_below c.args.a.now c.args.b.now _ (omega (arith, ints))

pub returns-else-b-a-clause-least : goal.returns-else-b-a-clause-least
returns-else-b-a-clause-least c = no_gap c.args.a.now c.args.b.now (omega (arith, ints)) (omega (arith, ints))
