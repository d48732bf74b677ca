use Rattle.std.proofs.lemmas.Result.{on_ok_weaker}
use Rattle.arrangement_core.proofs.AroundLemmas.{adds_second}
use Rattle.arrangement_core.proofs.near.push_second.Goals as goal

pub returns-then-pair-le-FEW-clause-own : goal.returns-then-pair-le-FEW-clause-own
returns-then-pair-le-FEW-clause-own c =
    on_ok_weaker c.push_few.result (adds_second c.args.pair.now.first.now c.args.pair.now.second.now c.args.pair.now.second_around.now _ _ c.requires.around) c.push_few.ensures.own
