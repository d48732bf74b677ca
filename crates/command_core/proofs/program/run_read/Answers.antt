use Rattle.std.proofs.Common.{Ok, Err, refl, rules}
use Rattle.command_core.proofs.program.run_read.Goals as goal

pub returns-in-Ok : goal.returns-in-Ok
returns-in-Ok g c = record { read = Ok c.in-Ok.command; reading = c.in-Ok.ensures; done = search rules }

pub returns-in-Err : goal.returns-in-Err
returns-in-Err g c = record { read = Err c.in-Err.fault; reading = c.in-Err.ensures; done = (refl, search rules) }
