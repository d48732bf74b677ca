use Rattle.std.proofs.Common.{◌≡◌, ◌∙◌, ◌+◌, [], Err, length, ap, sym, arith, refl}
use Rattle.std.proofs.lemmas.List.Elements.{All-cons, All-nil, All-push}
use Rattle.std.proofs.lemmas.Result.{err_from_is_err_and}
use Rattle.row_core.specs.declared.unread.Unread.TheVariants.{Rows}
use Rattle.row_core.specs.LayerRows.{HasId}
use Rattle.row_core.specs.Cuts.{IsClosed}
use Rattle.row_core.specs.LayerRows.{content_of, form_of}
use Rattle.row_core.specs.Rows.{rows_left, rows_read}
use Rattle.file_core.proofs.BatchLemmas.{say-push, says-any, batch-refused, batch-ended, batch-faulty}
use Rattle.file_core.proofs.batch.fill.Goals as goal

pub returns-in_err-reserve-clause-batch : goal.returns-in_err-reserve-clause-batch
returns-in_err-reserve-clause-batch g c =
    let none = c.reserve.ensures.items ∙ c.requires.empty in
    let p = err_from_is_err_and c.from_residual.result c.from_residual.ensures.1 in
    rw (none, p.1, p.2) (batch-refused (form_of g.F.Format.reads c.args.reader) (Rows c.args.rows.now) (Rows c.args.rows.now) [] (rows_left c.args.rows.now) refl (All-nil HasId))

pub loop-init : goal.loop-init
loop-init g c =
    let none = c.reserve.ensures.items ∙ c.requires.empty in
    let few = ap length none in
    record {
      reading = c.requires.reading;
      rows = rw none refl;
      counted = omega (arith, few, c.reserve.new.self.ok.0);
      ids = rw none (All-nil HasId);
      closed = λ unended all. all;
      room = omega (arith, few, c.reserve.new.self.ok.0, c.in_ok-reserve.ensures.ok);
      filled = omega (arith, few, c.reserve.new.self.ok.0);
    }

pub returns-in_err-next-clause-batch : goal.returns-in_err-next-clause-batch
returns-in_err-next-clause-batch g c =
    let p = err_from_is_err_and c.from_residual-in_err-next.result c.from_residual-in_err-next.ensures.1 in
    rw (p.1, p.2)
    (batch-refused (form_of g.F.Format.reads c.args.reader) (Rows c.args.rows.now) _ c.loop.read.items (rows_left c.loop.rows) c.loop.invariant.rows
    c.loop.invariant.ids)

pub returns-in_default-clause-batch : goal.returns-in_default-clause-batch
returns-in_default-clause-batch g c =
    batch-ended (form_of g.F.Format.reads c.args.reader) (Rows c.args.rows.now) _ c.loop.read.items (rows_left c.loop.rows) c.loop.invariant.rows
    c.loop.invariant.ids (rw c.in_default.is at c.in_ok-next.ensures).none_left

pub returns-in_default-clause-closed : goal.returns-in_default-clause-closed
returns-in_default-clause-closed g c done unended =
    let ended = rw c.in_default.is at c.in_ok-next.ensures in
    c.loop.invariant.closed (sym ended.same ∙ unended) (rw ended.none_left (All-nil IsClosed))

pub returns-in_err-row-clause-batch : goal.returns-in_err-row-clause-batch
returns-in_err-row-clause-batch g c =
    let reads = rw c.in-Some.is at c.in_ok-next.ensures in
    let fault = c.in_err-row.field-0.0 in
    let p = err_from_is_err_and c.from_residual-in_err-row.result c.from_residual-in_err-row.ensures.1 in
    let at : c.in-Some.number ≡ rows_read c.args.rows.now + 1 + length c.loop.read.items =
    omega (arith, reads.numbered, c.loop.invariant.counted, c.loop.read.ok.0) in
    rw (p.1, p.2)
    (batch-faulty (form_of g.F.Format.reads c.args.reader) (Rows c.args.rows.now) _ c.loop.read.items (rows_left c.loop.rows) c.loop.invariant.rows
    c.loop.invariant.ids fault (λ e. c.in_err-row.ensures.no_io (ap Err e))
    (λ known. rw (reads.row, ← at, ← c.row-record.ensures) (c.in_err-row.ensures.fault known)))

pub loop-preserved : goal.loop-preserved
loop-preserved g c =
    let reads = rw c.in-Some.is at c.in_ok-next.ensures in
    let say = rw reads.row at c.loop.invariant.rows in
    let row = c.in_ok-row.row in
    record {
      reading = reads.reading;
      rows = rw c.push_reserved.ensures.items
          (say-push (form_of g.F.Format.reads c.args.reader) (rows_left c.args.rows.now) c.loop.read.items _ row
          _ say
          (says-any (form_of g.F.Format.reads c.args.reader) c.in-Some.number _ (content_of row) (rw (← c.row-record.ensures) c.in_ok-row.ensures.says)));
      counted = omega (arith, reads.numbered, reads.counted, c.loop.invariant.counted, c.push_reserved.ensures.len);
      ids = rw c.push_reserved.ensures.items (All-push HasId c.loop.read.items row c.loop.invariant.ids c.in_ok-row.ensures.id);
      closed = λ unended all. c.loop.invariant.closed (reads.closed unended).0
          (rw reads.row (All-cons IsClosed _ _ (reads.closed unended).1 all));
      room = omega (arith, c.loop.invariant.room, c.push_reserved.ensures.capacity);
      filled = omega (arith, c.loop.invariant.filled, c.push_reserved.ensures.len);
    }

pub returns-clause-batch : goal.returns-clause-batch
returns-clause-batch g c =
    let inv = c.loop.invariant in
    let count = c.loop.read.ok.0 in
    record {
      left = rows_left c.loop.rows;
      rows = inv.rows;
      behind = (inv.reading, refl, omega (arith, inv.counted, count), omega (arith, inv.filled, c.loop-test.false, count, c.requires.some));
      ids = inv.ids;
      no_io = λ e. cc;
    }
