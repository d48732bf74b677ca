use Rattle.std.proofs.Common.{refl, rules}
use Rattle.parallel_core.proofs.Teams.{is_beside}
use Rattle.parallel_core.proofs.team.Team.next.Goals as goal

pub returns-clause-beside : goal.returns-clause-beside
returns-clause-beside c = λ board outlet ready.
    is_beside board outlet c.args.self.now _ c.in-Some.seat c.in_ok-port.port ready c.in_ok-port.ensures.items c.in-Some.ensures.items refl
    c.in-Some.ensures.capacity (search rules)
