use Rattle.std.proofs.Common.{◌≡◌, ◌+◌, ◌*◌, drop}
use Rattle.std.specs.Slice.Iter.{chunks_rest, chunks_size}
use Rattle.deliver_core.specs.Scripts.{script_batches, batches_for}
use Rattle.parallel_core.specs.Sending.{StaysOpen, Says}
use Rattle.parallel_core.proofs.script.send_script.Given as goal

abbrev pub invariant-loop-piece : goal.invariant-loop-piece
invariant-loop-piece g l = record {
  can_next : (goal.iterator-loop-piece g).can_next l.piece-iterator;
  finite : (goal.iterator-loop-piece g).is_finite l.piece-iterator;
  size : chunks_size l.piece-iterator ≡ l.job.batch;
  rest : chunks_rest l.piece-iterator ≡ drop (l.number * l.job.batch) l.row;
  left : l.number + batches_for l.job.batch (chunks_rest l.piece-iterator) ≡ batches_for l.job.batch l.row;
  port : StaysOpen l.job.outlet.now l.initial.port l.port;
  said : Says l.initial.port l.port (script_batches l.task l.job.batch l.row l.number);
}
