use Rattle.std.proofs.Common.{◌≡◌, rules, arith, ◌∙◌}
use Rattle.std.specs.Slice.Iter.{chunks_rest}
use Rattle.deliver_core.specs.Scripts.{batches_for}
use Rattle.parallel_core.proofs.OfferLemmas.{offers_batch, offers_script}
use Rattle.parallel_core.proofs.Scripts.{no_batches, after_piece}
use Rattle.parallel_core.proofs.alone.offer_script.Goals as goal

pub loop-piece-preserved : goal.loop-piece-preserved
loop-piece-preserved c =
    let so_far = c.loop-piece.invariant in
    let steps = c.in-Some.ensures.steps in
    let next = after_piece c.args.batch c.loop-piece.number c.args.row.now (chunks_rest c.loop-piece.piece-iterator) c.in-Some.piece.now
    _ c.requires.batch so_far.rest so_far.left steps.1.0 (rw so_far.size at steps.1.1) steps.1.2 in
    record {
      can_next = search rules;
      finite = tt;
      size = steps.0 ∙ so_far.size;
      rest = next.rest_is;
      left = next.left;
      offers = search (rules, offers_batch, next.piece_is);
    }

pub returns : goal.returns
returns c =
    let so_far = c.loop-piece.invariant in
    let none = no_batches c.args.batch (chunks_rest c.loop-piece.piece-iterator) c.requires.batch c.in-None.ensures.steps.1.0 in
    let all : c.loop-piece.number ≡ batches_for c.args.batch c.args.row.now = omega (arith, none, so_far.left) in
    search (rules, offers_script, all)
