use Rattle.std.proofs.Common.{◌<◌, length}
use Rattle.std.proofs.lemmas.List.{length-map}
use Rattle.descent_core.specs.Plans.{IsTask}
use Rattle.descent_core.proofs.TaskLemmas.{task_at}
use Rattle.descent_core.proofs.plan.Plan.task.Goals as goal

pub returns-clause-lawful : goal.returns-clause-lawful
returns-clause-lawful c =
    let within : c.args.k < length c.self.inside.tasks.items = rw length-map at (rw (← c.self.view_is) at c.requires) in
    task_at IsTask c.self.inside.tasks.items c.args.k c.index.result.now c.self.invariant.each within c.index.ensures
