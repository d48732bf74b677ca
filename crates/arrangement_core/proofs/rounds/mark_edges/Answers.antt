use Rattle.noding_core.proofs.TurnLemmas.{marked_from, all_front, all_back}
use Rattle.noding_core.specs.ReadOffs.{IsOwn}
use Rattle.arrangement_core.proofs.SettledLemmas.{begun_own}
use Rattle.arrangement_core.proofs.SharedLemmas.{shared_still}
use Rattle.arrangement_core.proofs.rounds.mark_edges.Goals as goal

pub mark_some-requires-clause-own : goal.mark_some-requires-clause-own
mark_some-requires-clause-own c = all_back (IsOwn c.args.pair.now.first.now) _ _ _ c.split_at.ensures.by_index.0 c.requires.own

pub mark_some-requires-2-clause-own : goal.mark_some-requires-2-clause-own
mark_some-requires-2-clause-own c = all_front (IsOwn c.args.pair.now.first.now) _ _ _ c.split_at.ensures.by_index.0 c.requires.own

pub returns-clause-marked : goal.returns-clause-marked
returns-clause-marked c = marked_from c.args.pair.now.first.now c.args.pair.now.second.now _ _ _ _ _ _ _ _ c.split_at.ensures.by_index.0
    c.in_ok-begun.ensures.marked c.in_ok-grown.ensures.marked

pub mark_some-requires-2-clause-shared : goal.mark_some-requires-2-clause-shared
mark_some-requires-2-clause-shared c =
    shared_still c.args.pair.now.first.now c.args.pair.now.second.now c.args.pair.now.has_second _ _ _ _ c.in_ok-begun.ensures.marked c.requires.shared

pub mark_some-requires-2-clause-begun : goal.mark_some-requires-2-clause-begun
mark_some-requires-2-clause-begun c =
    begun_own c.args.wanted.now c.args.pair.now.has_second c.args.pair.now.first.now c.args.pair.now.second.now _ _ _ _
    (all_back (IsOwn c.args.pair.now.first.now) _ _ _ c.split_at.ensures.by_index.0 c.requires.own) c.requires.begun c.in_ok-begun.ensures.marked
