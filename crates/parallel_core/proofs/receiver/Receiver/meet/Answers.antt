use Rattle.std.proofs.Common.{refl}
use Rattle.parallel_core.proofs.Receivers.{continues_same}
use Rattle.parallel_core.proofs.receiver.Receiver.meet.Goals as goal

pub returns-clause-continues : goal.returns-clause-continues
returns-clause-continues g c =
    let same = c.meet.ensures.tap in
    continues_same _ c.args.self.now _ c.requires.receives same.belongs same.ports same.taken refl refl
