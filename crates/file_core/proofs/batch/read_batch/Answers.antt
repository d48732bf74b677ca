use Rattle.file_core.proofs.BatchLemmas.{batch-none}
use Rattle.file_core.proofs.batch.read_batch.Goals as goal

pub returns-in-Err : goal.returns-in-Err
returns-in-Err g c = batch-none _ _ _ _ c.new-no_rows.ensures.items
