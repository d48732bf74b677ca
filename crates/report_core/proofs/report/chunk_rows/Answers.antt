use Rattle.std.proofs.Common.{◌≤◌, IfOk, length, get_or, subst, sym, arith, rules, of_calls}
use Rattle.report_core.specs.ReportRows.{AreRows, IsRowOf}
use Rattle.report_core.proofs.ReportChunkLemmas.{chunks_joined, chunk_written, few_chunks, no_rows, no_text, rows_append, from_both}
use Rattle.report_core.proofs.report.chunk_rows.Goals as goal

pub returns-clause-rows : goal.returns-clause-rows
returns-clause-rows g c = from_both c.map_chunks.result _ _ _ c.map_chunks.ensures.len c.map_chunks.ensures.each (λ chunks len each. λ ok.
    let row = IsRowOf g.M.AsPair.pair_of (g.F.LastField.name_of c.args.form.now.field.now) (g.F.LastField.is_field c.args.form.now.field.now) c.args.left.now.list c.args.right.now.list in
    chunks_joined (AreRows row) (no_rows row) (rows_append row) c.max-size.result c.args.matches.now chunks.items no_text
    (λ n l. let k = (each n no_text l).1 in
    let rows : IfOk (get_or chunks.items n no_text) (λ text. AreRows row k.argument.now text.items) =
    first_of (search of_calls, search (of_calls, k.call), search (rules, k.call)) in
    chunk_written (AreRows row) c.args.matches.now k.argument.now c.max-size.result n _ k.argument_is (ok n no_text l) rows)
    (omega arith) (omega arith))

pub returns-clause-few : goal.returns-clause-few
returns-clause-few g c =
    let workers = c.args.form.now.workers in
    from_both c.map_chunks.result _ _ (λ chunks. length chunks.items ≤ workers) c.map_chunks.ensures.len c.map_chunks.ensures.len (λ chunks len same.
    let few = few_chunks (length c.args.matches.now) c.max-size.result workers c.requires.workers (omega arith) (omega arith) in
    let small : chunks.len ≤ workers = subst (λ n. n ≤ workers) (sym len) few in
    omega (arith, small, chunks.ok))
