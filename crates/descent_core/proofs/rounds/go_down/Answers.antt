use Rattle.std.proofs.Common.{arith}
use Rattle.descent_core.specs.Steps.{nodes_of}
use Rattle.descent_core.proofs.GoingLemmas.{reached_start, reached_next, reached_full, reached_cut, meeting_here}
use Rattle.descent_core.proofs.TaskLemmas.{length_nodes}
use Rattle.descent_core.proofs.rounds.go_down.Goals as goal

pub loop-init : goal.loop-init
loop-init c = reached_start (nodes_of c.args.tasks.items) c.requires.meeting (omega (arith, length_nodes c.args.tasks.items, c.requires.few))

pub next_round-requires : goal.next_round-requires
next_round-requires c =
    rw c.deref.ensures.value (meeting_here (nodes_of c.args.tasks.items) c.loop.counter (nodes_of c.loop.tasks.items) c.loop.invariant)

pub returns-in-None : goal.returns-in-None
returns-in-None c =
    reached_full (nodes_of c.args.tasks.items) c.loop.counter c.args.rounds (nodes_of c.loop.tasks.items) c.loop.invariant c.loop-test.true
    (rw (c.in-None.is, c.deref.ensures.value) at c.in_ok-below.ensures)

pub loop-preserved : goal.loop-preserved
loop-preserved c =
    reached_next (nodes_of c.args.tasks.items) c.loop.counter (nodes_of c.loop.tasks.items) (nodes_of c.in-Some.next.items) c.loop.invariant
    (rw (c.in-Some.is, c.deref.ensures.value) at c.in_ok-below.ensures)

pub returns : goal.returns
returns c =
    reached_cut (nodes_of c.args.tasks.items) c.loop.counter c.args.rounds (nodes_of c.loop.tasks.items) c.loop.invariant
    (omega (arith, c.loop-test.false, c.loop.auto.counter-end))
