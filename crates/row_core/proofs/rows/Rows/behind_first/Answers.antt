use Rattle.std.proofs.Common.{◌∙◌, length, sym, ap, arith, refl}
use Rattle.row_core.specs.Records.{records_left}
use Rattle.row_core.proofs.FileLemmas.{file_fits, length-records_of}
use Rattle.row_core.proofs.rows.Rows.behind_first.Goals as goal

pub returns-clause-ok : goal.returns-clause-ok
returns-clause-ok c =
    let takes = rw c.if-not-found.false at c.in_ok-found.ensures in
    let records = sym c.in_ok-records.ensures.records ∙ (λ i. records_left (sym c.deref_mut-first.ensures.value i).reader) ∙ takes.records in
    let few = length-records_of c.args.delimiter c.args.file.now in
    record {
      short = omega arith;
      records = records;
      closed = c.is_unended-unended.ensures;
      none_read = refl;
      reading = record { reader = takes.reading; few = omega (arith, few, ap length records, file_fits c.args.limits) };
    }
