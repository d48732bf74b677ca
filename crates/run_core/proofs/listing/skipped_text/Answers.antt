use Rattle.run_core.specs.EditedLayers.{skipped_lists}
use Rattle.run_core.proofs.SkippedLemmas.{list_made}
use Rattle.run_core.proofs.listing.skipped_text.Goals as goal

pub returns : goal.returns
returns c =
    list_made (skipped_lists c.args.rows.now) _ _ _ _ c.rows_text.result c.new_rows-writer.ensures c.in_ok-push_row.ensures
    (rw c.as_slice.ensures.value at c.in_ok-push_side.ensures) (rw c.as_slice-2.ensures.value at c.in_ok-push_side-2.ensures) c.rows_text.ensures
