use Rattle.std.proofs.Common.{◌≡◌, ◌∙◌, ◌∷◌, ◌++◌, [], length, map, ap, arith, refl, Ok, Err, length-append}
use Rattle.std.proofs.lemmas.List.{map-append}
use Rattle.std.proofs.lemmas.Result.{err_from_is_err_and}
use Rattle.layer_core.specs.Edits.{content_of}
use Rattle.file_core.proofs.edit_file.edits_of_bytes.Goals as goal

pub returns-in_err-edit-clause-file : goal.returns-in_err-edit-clause-file
returns-in_err-edit-clause-file g c =
    let reads = rw c.in-Some.is at c.in_ok-number.ensures in
    let fault = c.in_err-edit.field-0.0 in
    let p = err_from_is_err_and c.from_residual-in_err-edit.result c.from_residual-in_err-edit.ensures.1 in
    rw (p.1, p.2)
    (λ known.
    let gives = rw (reads.numbered, c.row-record.ensures) at (c.in_err-edit.ensures.err (λ e. known (ap Err e))) in
    c.loop-edits.invariant.2 (Err fault) (rw reads.row (Err fault, (Err fault, gives, refl), refl)))

pub loop-edits-preserved : goal.loop-edits-preserved
loop-edits-preserved g c =
    let reads = rw c.in-Some.is at c.in_ok-number.ensures in
    let items : c.push_reserved.new.self.items ≡ c.loop-edits.edits.items ++ (c.in_ok-edit.edit ∷ []) = cc in
    let edits = ap (map content_of) items ∙ map-append content_of c.loop-edits.edits.items (c.in_ok-edit.edit ∷ []) in
    let row_gives = rw (reads.numbered, c.row-record.ensures) at c.in_ok-edit.ensures.ok in (
      reads.reading,
      omega (arith, c.loop-edits.invariant.1, ap length items, length-append c.loop-edits.edits.items (c.in_ok-edit.edit ∷ []), ap length reads.row),
      λ answer gives.
          let later = rw (reads.counted ∙ reads.numbered) at gives in
          c.loop-edits.invariant.2 answer
          (rw reads.row (Ok (map content_of c.push_reserved.new.self.items), (Ok (content_of c.in_ok-edit.edit), row_gives, ap Ok edits), later)),
    )
