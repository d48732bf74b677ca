use Rattle.std.proofs.Common.{sym, subst, refl, ◌∙◌}
use Rattle.edge_index_core.specs.Beyond.{is_beyond}
use Rattle.noding_core.specs.ReadOffs.{outline_edges, IsOwn}
use Rattle.arrangement_core.proofs.RoundLemmas.{some_none, some_more, some_skipped, some_whole, some_rest}
use Rattle.arrangement_core.proofs.OuterLemmas.{outer_adds_none}
use Rattle.shown_core.proofs.ShownLemmas.{edges_of_first}
use Rattle.arrangement_core.proofs.rounds.mark_beyond.Goals as goal

pub loop-e-init : goal.loop-e-init
loop-e-init c = some_none _ _ _ _ _ _

pub loop-e-preserved-then-not-beyond : goal.loop-e-preserved-then-not-beyond
loop-e-preserved-then-not-beyond c =
    some_skipped _ _ _ _ (is_beyond c.args.pair.now.second_box) c.args.edges.now c.loop-e.e-index c.e-item.result _ _ c.loop-e-test.true c.e-item.is
    (sym c.is_beyond-beyond.ensures ∙ c.if-not-beyond.true) c.loop-e.invariant

pub mark_outer_edge-requires-clause-one : goal.mark_outer_edge-requires-clause-one
mark_outer_edge-requires-clause-one c =
    let a = c.args.pair.now.first.now in
    let b = c.args.pair.now.second.now in
    record {
      edges = edges_of_first a b (outline_edges a b) c.requires.long refl;
      one = subst (IsOwn a) (sym c.e-item.is) (c.requires.own c.loop-e.e-index c.e-item.result c.loop-e-test.true);
    }

pub mark_outer_edge-requires-clause-beyond : goal.mark_outer_edge-requires-clause-beyond
mark_outer_edge-requires-clause-beyond c = sym c.is_beyond-beyond.ensures ∙ c.if-not-beyond.false

pub loop-e-preserved : goal.loop-e-preserved
loop-e-preserved c =
    some_more _ _ _ _ (is_beyond c.args.pair.now.second_box) c.args.edges.now c.loop-e.e-index c.e-item.result _ _ _ c.loop-e-test.true c.e-item.is
    (subst (IsOwn c.args.pair.now.first.now) (sym c.e-item.is) (c.requires.own c.loop-e.e-index c.e-item.result c.loop-e-test.true))
    c.loop-e.invariant c.in_ok-grown.ensures

pub returns : goal.returns
returns c = some_whole _ _ _ _ _ c.args.edges.now c.loop-e.e-index _ _ c.loop-e-test.false c.loop-e.invariant

pub returns-then-is_outer_shown : goal.returns-then-is_outer_shown
returns-then-is_outer_shown c =
    let a = c.args.pair.now.first.now in
    let b = c.args.pair.now.second.now in
    let box = c.args.pair.now.second_box in
    some_rest a b (outline_edges a b) _ (is_beyond box) c.args.edges.now c.loop-e.e-index _ _ c.requires.own
    (λ e one beyond. outer_adds_none c.loop-e.grown a b _ c.args.pair.now.first_box box e c.requires.long c.requires.first c.requires.second
    (rw c.outline-own.ensures at c.is_outer_shown.ensures c.if-is_outer_shown.true) one beyond)
    c.loop-e.invariant
