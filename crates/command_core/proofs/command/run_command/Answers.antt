use Rattle.std.proofs.Common.{Ok, Err, refl, rules}
use Rattle.command_core.proofs.command.run_command.Goals as goal

pub returns-in-Ok : goal.returns-in-Ok
returns-in-Ok g c =
    let skips = c.in-Ok.ensures.skips in
    record {
      outcome = Ok tt;
      ends = c.in-Ok.ensures.ends;
      rows = skips.0;
      skips = skips.1;
      notes = c.execute.new.notes;
      are_notes = skips.2;
      said = (refl, c.tell.ensures);
    }

pub returns : goal.returns
returns g c =
    let skips = c.in-Err.ensures.skips in
    record {
      outcome = Err c.in-Err.fault;
      ends = c.in-Err.ensures.ends;
      rows = skips.0;
      skips = skips.1;
      notes = c.execute.new.notes;
      are_notes = tt;
      said = (refl, search rules);
    }
