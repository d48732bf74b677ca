-- the first task whose counter has not ended is the least open one, and where there is none the history is closed
use Rattle.std.proofs.Common.{refl, sym, ◌∙◌}
use Rattle.deliver_core.proofs.Histories.{Tells-history, IsClosed-tells, IsLeastOpen-tells}
use Rattle.deliver_core.proofs.collector.Collector.ended.Goals as goal
use Rattle.deliver_core.proofs.collector.Collector.ended.Goals.{After-drop-progress}
use Rattle.deliver_core.specs.Collectors.{IsLeastOpen}
use Rattle.deliver_core.specs.declared.faults.Finish.TheVariants.{Open}

least_open : (c : After-drop-progress) → IsLeastOpen c.args.self (Open c.in-Some.task)
least_open c =
    let a = c.self.inside in
    rw (← c.self.view_is)
    (IsLeastOpen-tells a.progress.items a.marks.items c.self.invariant a.pairs.items c.in-Some.task
    (rw c.as_slice-tasks.ensures.value at c.in-Some.ensures.within)
    (rw c.as_slice-tasks.ensures.value at c.in-Some.ensures.not_ended)
    (rw c.as_slice-tasks.ensures.value at c.in-Some.ensures.first))

pub returns-in-Some-clause-least_open : goal.returns-in-Some-clause-least_open
returns-in-Some-clause-least_open c = least_open c

pub returns-in-Some-clause-closed : goal.returns-in-Some-clause-closed
returns-in-Some-clause-closed c =
    let found = least_open c in
    (λ wrong. absurd (cc wrong), λ closed. sym found.1 ∙ closed c.in-Some.task found.0)

pub returns-clause-closed : goal.returns-clause-closed
returns-clause-closed c =
    let a = c.self.inside in
    rw (← c.self.view_is)
    (λ _. IsClosed-tells a.progress.items a.marks.items c.self.invariant (rw c.as_slice-tasks.ensures.value at c.in_default.ensures.none), λ _. refl)

pub returns-clause-history : goal.returns-clause-history
returns-clause-history c =
    let a = c.self.inside in
    rw (← c.self.view_is) (Tells-history a.progress.items a.marks.items c.self.invariant)
