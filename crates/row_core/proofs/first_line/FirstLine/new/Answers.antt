use Rattle.std.proofs.Common.{◌≡◌, false, get_or, arith, ◌∙◌}
use Rattle.std.proofs.Math.ListN.{length-set}
use borrow.Author.Count.{below_more}
use Rattle.row_core.specs.FirstLines.{is_line_end}
use Rattle.row_core.proofs.FirstLineLemmas.{one_more}
use Rattle.row_core.proofs.first_line.FirstLine.new.Goals as goal

pub loop-place-preserved : goal.loop-place-preserved
loop-place-preserved c =
    let bytes = c.args.bytes.now in
    let place = c.loop-place.place in (
      length-set c.loop-place.told place _ ∙ c.loop-place.invariant.0,
      rw c.shown.ensures (one_more c.loop-place.told bytes place (omega arith) (omega arith) c.loop-place.invariant.1),
      below_more (λ other. is_line_end (get_or bytes other 0) ≡ false) place c.loop-place.invariant.2
          (rw c.is_line_end.ensures at c.if-is_line_end.false),
    )
