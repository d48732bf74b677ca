use Rattle.std.proofs.Common.{arith}
use Rattle.row_core.specs.LayerRows.{form_of}
use Rattle.file_core.proofs.PartLemmas.{parts-batch}
use Rattle.file_core.proofs.batch.read_parts.Goals as goal

pub returns : goal.returns
returns g c =
    let unread = rw c.in-Text.is at c.requires in
    rw c.in-Text.is
    (parts-batch (form_of g.F.Format.reads c.args.reader) c.in-Text.text _ c.in-Text.count c.in_ok-behind.behind _ c.in_ok-rows.field-0 unread
    (search) c.in_ok-rows.ensures (c.is_plain.ensures (search)) (omega (arith, c.in_ok-behind.ensures, c.in_ok-rows.read-is))
    (omega (arith, c.in_ok-rows.read-is)))
