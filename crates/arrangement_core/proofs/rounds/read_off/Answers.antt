use Rattle.std.proofs.Common.{refl}
use Rattle.arrangement_core.proofs.RoundLemmas.{with_points}
use Rattle.arrangement_core.proofs.rounds.read_off.Goals as goal

pub returns-clause-read : goal.returns-clause-read
returns-clause-read c = with_points c.args.wanted.now c.args.pair.now.first.now c.args.pair.now.second.now _ _ _ _ _ _ refl
    c.in_ok-marked.ensures.marked c.mark_points-with_first.ensures c.transposed-turned.ensures c.mark_points-with_second.ensures c.transposed.ensures
