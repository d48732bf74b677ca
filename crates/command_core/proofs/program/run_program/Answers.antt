use Rattle.std.proofs.Common.{Ok, Err, map, refl, string_bytes, rules}
use Rattle.command_core.proofs.program.run_program.Goals as goal

pub returns-in-Ok : goal.returns-in-Ok
returns-in-Ok g c = record { given = Ok (map string_bytes c.deref.result.now); done = search rules }

pub returns-in-Err : goal.returns-in-Err
returns-in-Err g c = record { given = Err c.in-Err.fault; done = (c.in-Err.ensures, refl, search rules) }
