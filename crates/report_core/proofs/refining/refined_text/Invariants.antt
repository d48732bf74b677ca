use Rattle.std.specs.Slice.Iter.{chunks_rest}
use Rattle.report_core.specs.ReportRows.{IsRowOf}
use Rattle.report_core.proofs.RefiningLemmas.{IsWritten}
use Rattle.report_core.proofs.refining.refined_text.Given as goal

abbrev pub invariant-loop-block : goal.invariant-loop-block
invariant-loop-block g l = record {
  can_next : (goal.iterator-loop-block g).can_next l.block-iterator;
  finite : (goal.iterator-loop-block g).is_finite l.block-iterator;
  written : IsWritten (g.C.Condition.stands l.condition) (g.C.Condition.answers l.condition)
      (IsRowOf (λ found. found.pair) (g.F.LastField.name_of l.fields.last.now) (g.F.LastField.is_field l.fields.last.now) l.left.list l.right.list) l.candidates (chunks_rest l.block-iterator) l.text.items;
}
