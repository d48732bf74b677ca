use Rattle.std.proofs.Common.{take, drop, sym, subst, refl}
use Rattle.std.proofs.lemmas.List.{take-append-drop}
use Rattle.std.proofs.lemmas.Result.{err_from_is_err_and}
use Rattle.noding_core.specs.ReadOffs.{outline_edges, IsOwn}
use Rattle.noding_core.proofs.ReadOffLemmas.{marked_none, marked_more, marked_whole}
use Rattle.noding_core.proofs.TurnLemmas.{all_front}
use Rattle.shown_core.proofs.ShownLemmas.{edges_of_first}
use Rattle.arrangement_core.proofs.SettledLemmas.{begun_own, part_next}
use Rattle.arrangement_core.proofs.SharedLemmas.{shared_still}
use Rattle.arrangement_core.proofs.matrices.mark_some.Goals as goal

pub loop-e-init : goal.loop-e-init
loop-e-init c = record { marked = marked_none _ _ _ _ _; seen = c.requires.seen }

pub mark_edge-requires-clause-one : goal.mark_edge-requires-clause-one
mark_edge-requires-clause-one c =
    let a = c.args.pair.now.first.now in
    let b = c.args.pair.now.second.now in
    record {
      edges = edges_of_first a b (outline_edges a b) c.requires.long refl;
      one = subst (IsOwn a) (sym c.e-item.is) (c.requires.own c.loop-e.e-index c.e-item.result c.loop-e-test.true);
    }

pub mark_edge-requires-clause-seen : goal.mark_edge-requires-clause-seen
mark_edge-requires-clause-seen c = c.loop-e.invariant.seen

pub loop-e-preserved : goal.loop-e-preserved
loop-e-preserved c = record {
  marked = marked_more _ _ _ _ _ _ _ _ _ _ c.loop-e-test.true c.e-item.is c.loop-e.invariant.marked c.in_ok-next.ensures.marked;
  seen = c.in_ok-next.ensures.seen;
}

pub returns-clause-marked : goal.returns-clause-marked
returns-clause-marked c = marked_whole _ _ _ _ _ c.loop-e.e-index _ _ c.loop-e-test.false c.loop-e.invariant.marked

pub mark_edge-requires-clause-shared : goal.mark_edge-requires-clause-shared
mark_edge-requires-clause-shared c =
    shared_still c.args.pair.now.first.now c.args.pair.now.second.now c.args.pair.now.has_second _ _ _ _ c.loop-e.invariant.marked c.requires.shared

-- what the edges that the matrix includes settle
pub returns-in_err-go_on-clause-stop : goal.returns-in_err-go_on-clause-stop
returns-in_err-go_on-clause-stop c =
    let p = err_from_is_err_and c.from_residual-in_err-go_on.result c.from_residual-in_err-go_on.ensures.1 in
    rw (p.1, p.2) (c.in_err-go_on.ensures _ _
    (part_next c.args.wanted.now c.args.pair.now.has_second c.args.pair.now.first.now c.args.pair.now.second.now _ _ _ _ _ _ _ _ _ c.loop-e-test.true c.e-item.is c.requires.own
    c.requires.first c.requires.bounded c.requires.long c.requires.begun c.loop-e.invariant.marked c.in_ok-next.ensures.marked))

pub mark_edge-requires-clause-begun : goal.mark_edge-requires-clause-begun
mark_edge-requires-clause-begun c =
    let ds = c.args.edges.now in
    let i = c.loop-e.e-index in
    begun_own c.args.wanted.now c.args.pair.now.has_second c.args.pair.now.first.now c.args.pair.now.second.now _ (take i ds) _ _
    (all_front (IsOwn c.args.pair.now.first.now) ds (take i ds) (drop i ds) (sym (take-append-drop i ds)) c.requires.own)
    c.requires.begun c.loop-e.invariant.marked
