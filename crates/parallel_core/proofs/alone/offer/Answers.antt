use Rattle.std.proofs.Common.{refl}
use Rattle.parallel_core.proofs.OfferLemmas.{offers_one}
use Rattle.parallel_core.proofs.alone.offer.Goals as goal

pub returns : goal.returns
returns c =
    offers_one c.args.fused.now c.take_in.new.self (record { port = 0; task = c.args.task; body = c.args.body }) refl c.take_in.ensures.tasks c.take_in.ensures.more
