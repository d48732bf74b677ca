use Rattle.std.proofs.Common.{Ok, Err, arith}
use Rattle.std.proofs.lemmas.Result.{err_from_is_err_and}
use Rattle.relation_core.proofs.MaskLemmas.{Reads, exact_ok, exact_length, exact_letter, exact_text, reads_fault}
use Rattle.relation_core.proofs.mask.Mask.read.Goals as goal

pub returns-in_err-rows : goal.returns-in_err-rows
returns-in_err-rows c =
    let p = err_from_is_err_and c.from_residual.result c.from_residual.ensures.1 in
    let text = c.args.text.now in
    let reads = reads_fault text c.in_err-rows.field-0.0 (omega arith) c.in_err-rows.ensures.err in
    rw (p.1, p.2) (record {
      ok = exact_ok text (Err c.in_err-rows.field-0.0) reads;
      length = exact_length text (Err c.in_err-rows.field-0.0) reads;
      letter = exact_letter text (Err c.in_err-rows.field-0.0) reads;
      text = exact_text text (Err c.in_err-rows.field-0.0) reads;
    })

pub returns : goal.returns
returns c =
    let text = c.args.text.now in
    let reads : Reads text (Ok record { rows = c.in_ok-rows.rows }) = (omega arith, c.in_ok-rows.ensures.ok) in
    record {
      ok = exact_ok text (Ok record { rows = c.in_ok-rows.rows }) reads;
      length = exact_length text (Ok record { rows = c.in_ok-rows.rows }) reads;
      letter = exact_letter text (Ok record { rows = c.in_ok-rows.rows }) reads;
      text = exact_text text (Ok record { rows = c.in_ok-rows.rows }) reads;
    }
