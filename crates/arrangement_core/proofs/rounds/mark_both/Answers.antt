use Rattle.std.specs.Prelude.{false}
use Rattle.edge_index_core.specs.Beyond.{is_beyond}
use Rattle.noding_core.proofs.TurnLemmas.{long_turned}
use Rattle.arrangement_core.proofs.RoundLemmas.{rounds}
use Rattle.arrangement_core.proofs.SettledLemmas.{begun_none, begun_some, begun_turned}
use Rattle.arrangement_core.proofs.SharedLemmas.{shared_first}
use Rattle.arrangement_core.proofs.rounds.mark_both.Goals as goal

pub mark_around-requires-2-clause-long : goal.mark_around-requires-2-clause-long
mark_around-requires-2-clause-long c = long_turned c.args.pair.now.first.now c.args.pair.now.second.now _ _ c.turned-turned.ensures.first c.turned-turned.ensures.second c.requires.long

pub mark_outer-requires-clause-long : goal.mark_outer-requires-clause-long
mark_outer-requires-clause-long c = long_turned c.args.pair.now.first.now c.args.pair.now.second.now _ _ c.turned-turned.ensures.first c.turned-turned.ensures.second c.requires.long

pub returns-clause-marked : goal.returns-clause-marked
returns-clause-marked c =
    let t = c.turned-turned.ensures in
    rounds c.args.pair.now.first.now c.args.pair.now.second.now (is_beyond c.args.pair.now.second_box) (is_beyond c.args.pair.now.first_box) _ _ _ _ _ _
    (rw c.start-start.ensures at c.in_ok-around_first.ensures.marked)
    (rw (t.first, t.second, t.second_box, c.transposed-across.ensures) at c.in_ok-around_both.ensures.marked)
    (rw (t.first, t.second, t.second_box) at c.in_ok-second.ensures)
    (rw c.transposed-back.ensures at c.in_ok-all.ensures)

pub mark_around-requires-2-clause-shared : goal.mark_around-requires-2-clause-shared
mark_around-requires-2-clause-shared c =
    let t = c.turned-turned.ensures in
    rw (t.first, t.second, c.transposed-across.ensures) (λ is. shared_first c.args.pair.now.first.now c.args.pair.now.second.now _ c.args.pair.now.second_box _ _ c.requires.second c.in_ok-around_first.ensures.marked)

pub mark_around-requires-clause-begun : goal.mark_around-requires-clause-begun
mark_around-requires-clause-begun c =
    rw (c.start-start.ensures, c.requires.none) (begun_none c.args.wanted.now c.args.pair.now.first.now c.args.pair.now.second.now _ c.requires.points)

pub mark_around-requires-2-clause-begun : goal.mark_around-requires-2-clause-begun
mark_around-requires-2-clause-begun c =
    let a = c.args.pair.now.first.now in
    let b = c.args.pair.now.second.now in
    let t = c.turned-turned.ensures in
    rw (t.first, t.second, t.marked, c.transposed-across.ensures) (begun_turned c.args.wanted.now a b _ _
    (begun_some c.args.wanted.now false a b _ _ _ _ _ (begun_none c.args.wanted.now a b _ c.requires.points) (rw c.start-start.ensures at c.in_ok-around_first.ensures.marked)))
