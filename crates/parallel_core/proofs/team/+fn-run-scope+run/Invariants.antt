use Rattle.std.proofs.Common.{◌+◌, ◌*◌, length}
use Rattle.parallel_core.proofs.team.+fn-run-scope+run.Given as goal

abbrev pub decreases-scope : goal.decreases-scope
decreases-scope g l = 2 * length l.team.ports.items + 1

abbrev pub decreases-run : goal.decreases-run
decreases-run g l = 2 * length l.team.ports.items
