use Rattle.parallel_core.proofs.Scripts.{says_one}
use Rattle.parallel_core.proofs.script.send.Goals as goal

pub returns-clause-says : goal.returns-clause-says
returns-clause-says g c = says_one c.args.port.now c.put.new.port _ c.put.ensures.sent
