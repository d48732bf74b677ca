use Rattle.std.proofs.Common.{◌∙◌, ◌+◌, ap, arith, length}
use Rattle.std.specs.Vec.Iter.{into_iter_items}
use Rattle.std.proofs.lemmas.List.Elements.{All-head, All-tail}
use Rattle.std.proofs.lemmas.Result.{err_from_is_err_and}
use Rattle.file_core.specs.Batches.{if_loaded, with_rows}
use Rattle.row_core.specs.LayerRows.{HasId}
use Rattle.row_core.specs.LayerRows.{content_of}
use Rattle.file_core.specs.SkippedRows.{loaded_of, rows_in}
use Rattle.file_core.proofs.LoadedLemmas.{loaded_with-next}
use Rattle.file_core.proofs.insertion.add_rows.Goals as goal

pub add_row-requires-clause-id : goal.add_row-requires-clause-id
add_row-requires-clause-id g c = All-head HasId c.in-Some.row (into_iter_items c.next.new.self) (rw c.in-Some.ensures.steps.0 at c.loop-row.invariant.ids)

pub add_row-requires-clause-few : goal.add_row-requires-clause-few
add_row-requires-clause-few g c = omega (arith, c.loop-row.invariant.few, ap length c.in-Some.ensures.steps.0)

pub returns-in_err-add_row-clause-err : goal.returns-in_err-add_row-clause-err
returns-in_err-add_row-clause-err g c =
    let p = err_from_is_err_and c.from_residual.result c.from_residual.ensures.1 in
    rw (p.1, p.2)
    (λ known.
    c.loop-row.invariant.gives ∙ ap (with_rows (loaded_of c.loop-row.loading)) c.in-Some.ensures.steps.0
    ∙ ap (λ r. if_loaded r (λ l. with_rows l (into_iter_items c.next.new.self))) (c.in_err-add_row.ensures.err known))

pub loop-row-preserved : goal.loop-row-preserved
loop-row-preserved g c =
    let steps = c.in-Some.ensures.steps in
    let loaded = loaded_of c.loop-row.loading in
    record {
      gives = c.loop-row.invariant.gives ∙ ap (with_rows loaded) steps.0
          ∙ ap (λ r. if_loaded r (λ l. with_rows l (into_iter_items c.next.new.self))) c.in_ok-add_row.ensures.ok;
      ids = All-tail HasId c.in-Some.row (into_iter_items c.next.new.self) (rw steps.0 at c.loop-row.invariant.ids);
      few = omega (
        arith,
        c.loop-row.invariant.few,
        ap length steps.0,
        loaded_with-next (rows_in loaded + 1) loaded (content_of c.in-Some.row) _ c.in_ok-add_row.ensures.ok,
      );
    }
