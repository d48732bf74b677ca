use Rattle.edge_index_core.specs.Beyond.{is_beyond}
use Rattle.noding_core.specs.ReadOffs.{IsOwn, outline_edges}
use Rattle.noding_core.proofs.TurnLemmas.{all_front, all_back, all_own}
use Rattle.arrangement_core.proofs.RoundLemmas.{some_none, some_rest, some_turned}
use Rattle.arrangement_core.proofs.OuterLemmas.{outer_adds_none}
use Rattle.arrangement_core.proofs.rounds.mark_outer.Goals as goal

pub mark_beyond-requires-clause-own : goal.mark_beyond-requires-clause-own
mark_beyond-requires-clause-own c =
    let a = c.args.pair.now.first.now in
    all_back (IsOwn a) a.edges.items _ _ (rw c.edges-own_edges.ensures at c.split_at.ensures.by_index.0) (all_own a)

pub mark_beyond-requires-2-clause-own : goal.mark_beyond-requires-2-clause-own
mark_beyond-requires-2-clause-own c =
    let a = c.args.pair.now.first.now in
    all_front (IsOwn a) a.edges.items _ _ (rw c.edges-own_edges.ensures at c.split_at.ensures.by_index.0) (all_own a)

pub returns-then-is_outer_shown : goal.returns-then-is_outer_shown
returns-then-is_outer_shown c =
    let a = c.args.pair.now.first.now in
    let b = c.args.pair.now.second.now in
    let box = c.args.pair.now.second_box in
    some_rest a b (outline_edges a b) _ (is_beyond box) a.edges.items 0 _ _ (all_own a)
    (λ e one beyond. outer_adds_none c.args.matrix a b _ c.args.pair.now.first_box box e c.requires.long c.requires.first c.requires.second
    (rw c.outline.ensures at c.is_outer_shown.ensures c.if-is_outer_shown.true) one beyond)
    (some_none _ _ _ _ _ _)

pub returns : goal.returns
returns c = some_turned c.args.pair.now.first.now c.args.pair.now.second.now _ _ (is_beyond c.args.pair.now.second_box) _ _ _ _ _ _ (rw c.edges-own_edges.ensures at c.split_at.ensures.by_index.0)
    c.in_ok-begun.ensures c.in_ok-grown.ensures
