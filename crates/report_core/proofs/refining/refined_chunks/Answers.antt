use Rattle.std.proofs.Common.{◌≤◌, IfOk, length, get_or, subst, sym, arith, rules, of_calls}
use Rattle.report_core.specs.RefinedReports.{AreRefinedRows}
use Rattle.report_core.specs.ReportRows.{IsRowOf}
use Rattle.report_core.proofs.ReportChunkLemmas.{chunks_joined, chunk_written, few_chunks, no_text, from_both}
use Rattle.report_core.proofs.RefiningLemmas.{none_refined, refined_rows_append}
use Rattle.report_core.proofs.refining.refined_chunks.Goals as goal

pub returns-clause-rows : goal.returns-clause-rows
returns-clause-rows g c = from_both c.map_chunks.result _ _ _ c.map_chunks.ensures.len c.map_chunks.ensures.each (λ chunks len each. λ ok.
    let condition = c.args.form.now.condition.now in
    let stands = g.C.Condition.stands condition in
    let answers = g.C.Condition.answers condition in
    let row = IsRowOf (λ found. found.pair) (g.F.LastField.name_of c.args.form.now.field.now) (g.F.LastField.is_field c.args.form.now.field.now) c.args.left.now.list c.args.right.now.list in
    let written = AreRefinedRows stands answers row in
    chunks_joined written (none_refined stands answers row) (refined_rows_append stands answers row) c.max-size.result c.args.candidates.now chunks.items no_text
    (λ n l. let k = (each n no_text l).1 in
    let rows : IfOk (get_or chunks.items n no_text) (λ text. written k.argument.now text.items) =
    first_of (search of_calls, search (of_calls, k.call), search (rules, k.call)) in
    chunk_written written c.args.candidates.now k.argument.now c.max-size.result n _ k.argument_is (ok n no_text l) rows)
    (omega arith) (omega arith))

pub returns-clause-few : goal.returns-clause-few
returns-clause-few g c =
    let workers = c.args.form.now.workers in
    from_both c.map_chunks.result _ _ (λ chunks. length chunks.items ≤ workers) c.map_chunks.ensures.len c.map_chunks.ensures.len (λ chunks len same.
    let few = few_chunks (length c.args.candidates.now) c.max-size.result workers c.requires.workers (omega arith) (omega arith) in
    let small : chunks.len ≤ workers = subst (λ n. n ≤ workers) (sym len) few in
    omega (arith, small, chunks.ok))
