use Rattle.std.proofs.Common.{map, refl}
use Rattle.row_core.proofs.FileLemmas.{rows-headed}
use Rattle.row_core.proofs.rows.Rows.open.Goals as goal

pub returns-clause-ok : goal.returns-clause-ok
returns-clause-ok c =
    let behind = c.in_ok-rows.ensures.ok in
    let columns = map (λ col. col.now) c.args.columns.now in
    record {
      behind_header =
          rows-headed c.args.limits columns c.args.file.now behind.short _ _ behind.records (rw c.row.ensures at (c.is_header.ensures.0 c.if-not-is_header.false));
      none_read = behind.none_read;
      reading = behind.reading;
    }
