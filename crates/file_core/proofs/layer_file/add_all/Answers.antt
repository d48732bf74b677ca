use Rattle.std.proofs.Common.{◌≡◌, ◌≢◌, ◌≤◌, ◌∙◌, ◌+◌, suc, Bool, true, Result, Ok, Err, ap, subst, sym, arith}
use Rattle.std.proofs.lemmas.Result.{err_from_is_err_and}
use Rattle.row_core.specs.declared.read_fault.ReadFault.{ReadFault}
use Rattle.file_core.specs.Batches.{all_rows}
use Rattle.file_core.specs.SkippedRows.{loaded_of, loaded_or}
use Rattle.row_core.specs.LayerRows.{form_of}
use Rattle.file_core.proofs.BatchLemmas.{most_rounds, batch-counted, batch-few, batch-goes-on, batch-last, batch-refuses, batch-smaller}
use Rattle.file_core.proofs.LoadedLemmas.{loaded_or-err}
use Rattle.file_core.proofs.layer_file.add_all.Goals as goal
use Rattle.file_core.proofs.layer_file.add_all.Goals.{in_default, in_default-2}

pub loop-round-init : goal.loop-round-init
loop-round-init g c =
    let form = form_of g.F.Format.reads c.args.reader in
    let count = c.requires.next in
    let few = batch-few form c.args.unread _ _ _ c.requires.reading c.read_next-unread.ensures in (
      c.args.unread,
      c.read_next-unread.ensures,
      count,
      omega (arith, few, count),
      λ answer gives. gives,
    )

pub loop-round-preserved : goal.loop-round-preserved
loop-round-preserved g c =
    let reads = form_of g.F.Format.reads c.args.reader in
    let inv = c.loop-round.invariant in
    let is = c.in-Ok-true.is in
    let test = c.in-Ok-true.field-0-is in
    let more : c.loop-round.round.batch.more ≡ Ok true = cc in
    let batch = rw more at inv.1 in
    let rows = all_rows c.loop-round.round.batch.rows.items in
    let next = c.in_ok-round.round in
    let given = c.in_ok-round.ensures.ok in
    let count = batch-counted reads inv.0 c.loop-round.round.unread rows (loaded_of c.loop-round.round.loading) inv.2 (loaded_of next.loading) batch given in
    let few = batch-few reads c.loop-round.round.unread _ _ _ batch.behind.0 c.in_ok-round.ensures.read in (
      c.loop-round.round.unread,
      c.in_ok-round.ensures.read,
      count,
      omega (arith, few, count),
      λ answer gives.
          inv.4 answer
          (batch-goes-on reads inv.0 c.loop-round.round.unread rows (loaded_of c.loop-round.round.loading) inv.2 (loaded_of next.loading) answer batch given gives),
    )

pub loop-round-smaller : goal.loop-round-smaller
loop-round-smaller g c =
    let is = c.in-Ok-true.is in
    let test = c.in-Ok-true.field-0-is in
    let more : c.loop-round.round.batch.more ≡ Ok true = cc in
    let next = c.in_ok-round.round in
    let P : Result Bool ReadFault → Type 0 = λ m. suc (most_rounds next.unread next.batch.more) ≤ most_rounds c.loop-round.round.unread m in
    subst P (sym more)
    (batch-smaller (form_of g.F.Format.reads c.args.reader) c.loop-round.round.unread next.unread (all_rows next.batch.rows.items) next.batch.more c.in_ok-round.ensures.read)

pub returns-in_err-round-clause-rows : goal.returns-in_err-round-clause-rows
returns-in_err-round-clause-rows g c =
    let inv = c.loop-round.invariant in
    let fault = c.in_err-round.field-0.0 in
    let p = err_from_is_err_and c.from_residual.result c.from_residual.ensures.1 in
    rw (p.1, p.2)
    (λ known.
    inv.4 (Err fault)
    (batch-refuses (form_of g.F.Format.reads c.args.reader) inv.0 c.loop-round.round.unread (all_rows c.loop-round.round.batch.rows.items)
    (loaded_of c.loop-round.round.loading) inv.2
    c.loop-round.round.batch.more fault inv.1 (c.in_err-round.ensures.err (λ e. known (ap Err e)))))

pub returns-clause-rows : goal.returns-clause-rows
returns-clause-rows g c known =
    let inv = c.loop-round.invariant in
    let last : c.loop-round.round.batch.more ≢ Ok true =
    elim c.match-round.branch [
      | in_default w ↦ λ more. let is = w.in_default.is in let test = w.in_default.field-0-test in cc
      | in_default-2 w ↦ λ more. let is = w.in_default.is in absurd cc
    ] in
    inv.4 (loaded_or c.add_last.result)
    (batch-last (form_of g.F.Format.reads c.args.reader) inv.0 c.loop-round.round.unread (all_rows c.loop-round.round.batch.rows.items)
    (loaded_of c.loop-round.round.loading) inv.2
    c.loop-round.round.batch.more (loaded_or c.add_last.result) inv.1 last
    (λ e. known (loaded_or-err c.add_last.result _ e)) (c.add_last.ensures.rows known))
