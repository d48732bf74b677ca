use Rattle.std.proofs.Common.{◌∙◌, ◌++◌, ◌∷◌, [], ap}
use Rattle.std.proofs.lemmas.List.{append-nil}
use Rattle.file_core.specs.Batches.{all_rows}
use Rattle.row_core.specs.LayerRows.{form_of}
use Rattle.file_core.proofs.BatchLemmas.{batch-begun}
use Rattle.file_core.proofs.batch.read_rows.Goals as goal

pub returns : goal.returns
returns g c =
    let parts = c.in_ok-push.ensures.items ∙ ap (λ front. front ++ c.fill-more.new.read ∷ []) c.new-parts.ensures.items in
    rw (ap all_rows parts ∙ append-nil c.fill-more.new.read.items)
    (batch-begun (form_of g.F.Format.reads c.args.reader) c.args.unread _ _ _ _ c.in_ok-rows.ensures.rows c.in_ok-rows.ensures.count c.fill-more.ensures.batch)
