use Rattle.std.proofs.Common.{◌≡◌, ◌+◌, ◌*◌, drop}
use Rattle.std.specs.Slice.Iter.{chunks_rest, chunks_size}
use Rattle.deliver_core.specs.Scripts.{script_batches, batches_for}
use Rattle.parallel_core.specs.Offers.{Offers}
use Rattle.parallel_core.proofs.alone.offer_script.Given as goal

abbrev pub invariant-loop-piece : goal.invariant-loop-piece
invariant-loop-piece l = record {
  can_next : goal.iterator-loop-piece.can_next l.piece-iterator;
  finite : goal.iterator-loop-piece.is_finite l.piece-iterator;
  size : chunks_size l.piece-iterator ≡ l.batch;
  rest : chunks_rest l.piece-iterator ≡ drop (l.number * l.batch) l.row;
  left : l.number + batches_for l.batch (chunks_rest l.piece-iterator) ≡ batches_for l.batch l.row;
  offers : Offers (script_batches l.task l.batch l.row l.number) l.initial.fused l.fused;
}
