use Rattle.std.proofs.Common.{arith}
use Rattle.descent_core.specs.Steps.{nodes_of}
use Rattle.descent_core.proofs.RoundLemmas.{beside, taken_none, taken_more, too_many}
use Rattle.descent_core.proofs.TaskLemmas.{length_nodes}
use Rattle.descent_core.proofs.rounds.push_lower.Goals as goal

pub loop-left-init : goal.loop-left-init
loop-left-init c = taken_none (nodes_of c.args.next.now.items) (omega (arith, length_nodes c.args.next.now.items, c.requires))

pub returns-then-not-fits : goal.returns-then-not-fits
returns-then-not-fits c =
    too_many (beside c.args.rights.now) c.args.lefts.now c.loop-left.left-index c.left-item.result (nodes_of c.args.next.now.items)
    (nodes_of c.loop-left.next.items) c.loop-left-test.true c.left-item.is c.loop-left.invariant
    (rw c.if-not-fits.true at c.in_ok-fits.ensures)

pub loop-left-preserved : goal.loop-left-preserved
loop-left-preserved c =
    taken_more (beside c.args.rights.now) c.args.lefts.now c.loop-left.left-index c.left-item.result (nodes_of c.args.next.now.items)
    (nodes_of c.loop-left.next.items) c.loop-left-test.true c.left-item.is c.loop-left.invariant _
    (rw c.if-not-fits.false at c.in_ok-fits.ensures)
