use Rattle.noding_core.specs.ReadOffs.{outline_edges}
use Rattle.arrangement_core.proofs.AroundLemmas.{near_around}
use Rattle.arrangement_core.proofs.RoundLemmas.{around_own, around_marked}
use Rattle.arrangement_core.proofs.rounds.mark_around.Goals as goal

pub mark_edges-requires-clause-own : goal.mark_edges-requires-clause-own
mark_edges-requires-clause-own c = around_own c.args.pair.now.second_box c.args.pair.now.first.now _ c.requires.first_around

pub mark_edges-requires-clause-near : goal.mark_edges-requires-clause-near
mark_edges-requires-clause-near c =
    near_around c.args.pair.now.first.now c.args.pair.now.second.now c.args.pair.now.first_box _ c.requires.first c.requires.second_around

pub returns-clause-marked : goal.returns-clause-marked
returns-clause-marked c =
    let a = c.args.pair.now.first.now in
    let b = c.args.pair.now.second.now in
    around_marked a b (outline_edges a b) _ c.args.pair.now.second_box _ _ _ c.requires.first_around c.in_ok-grown.ensures.marked
