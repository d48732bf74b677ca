use Rattle.std.proofs.Common.{◌∙◌, ap, arith, length-append}
use Rattle.std.specs.Vec.Iter.{into_iter_items}
use Rattle.std.proofs.lemmas.Result.{err_from_is_err_and}
use Rattle.file_core.specs.Batches.{all_rows, if_loaded, with_rows}
use Rattle.row_core.specs.LayerRows.{HasId}
use Rattle.file_core.specs.SkippedRows.{loaded_of}
use Rattle.file_core.proofs.BatchLemmas.{with_rows-append, with_rows-next}
use Rattle.file_core.proofs.PartLemmas.{All-front, All-back}
use Rattle.file_core.proofs.insertion.add_parts.Goals as goal

pub add_rows-requires-clause-ids : goal.add_rows-requires-clause-ids
add_rows-requires-clause-ids g c =
    let rest = into_iter_items c.next.new.self in
    All-front HasId c.in-Some.rows.items (all_rows rest) (rw c.in-Some.ensures.steps.0 at c.loop-rows.invariant.ids)

pub add_rows-requires-clause-few : goal.add_rows-requires-clause-few
add_rows-requires-clause-few g c =
    let rest = all_rows (into_iter_items c.next.new.self) in
    omega (arith, rw c.in-Some.ensures.steps.0 at c.loop-rows.invariant.few, length-append c.in-Some.rows.items rest)

pub returns-in_err-add_rows-clause-err : goal.returns-in_err-add_rows-clause-err
returns-in_err-add_rows-clause-err g c =
    let rest = all_rows (into_iter_items c.next.new.self) in
    let loaded = loaded_of c.loop-rows.loading in
    let p = err_from_is_err_and c.from_residual.result c.from_residual.ensures.1 in
    rw (p.1, p.2)
    (λ known.
    c.loop-rows.invariant.gives ∙ ap (λ parts. with_rows loaded (all_rows parts)) c.in-Some.ensures.steps.0
    ∙ with_rows-append loaded c.in-Some.rows.items rest
    ∙ ap (λ r. if_loaded r (λ l. with_rows l rest)) (c.in_err-add_rows.ensures.err known))

pub loop-rows-preserved : goal.loop-rows-preserved
loop-rows-preserved g c =
    let rest = all_rows (into_iter_items c.next.new.self) in
    let loaded = loaded_of c.loop-rows.loading in
    let steps = c.in-Some.ensures.steps in
    let added = c.in_ok-add_rows.ensures.ok in
    record {
      gives = c.loop-rows.invariant.gives ∙ ap (λ parts. with_rows loaded (all_rows parts)) steps.0
          ∙ with_rows-append loaded c.in-Some.rows.items rest
          ∙ ap (λ r. if_loaded r (λ l. with_rows l rest)) added;
      ids = All-back HasId c.in-Some.rows.items rest (rw steps.0 at c.loop-rows.invariant.ids);
      few = omega (
        arith,
        rw steps.0 at c.loop-rows.invariant.few,
        length-append c.in-Some.rows.items rest,
        with_rows-next loaded c.in-Some.rows.items _ added,
      );
    }
