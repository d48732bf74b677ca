use Rattle.std.proofs.Common.{◌≡◌, ◌+◌, ◌++◌, All, IsOk, length}
use Rattle.std.specs.List.{flat_map}
use Rattle.std.specs.Vec.Iter.{into_iter_items}
use Rattle.report_core.specs.ReportRows.{text_or_none}
use Rattle.report_core.specs.Written.{joined}
use Rattle.report_core.proofs.report.push_all.Given as goal

abbrev pub invariant-loop-part : goal.invariant-loop-part
invariant-loop-part l = record {
  parts : l.yielded ++ into_iter_items l.part-iterator ≡ l.fn.parts.items;
  all : All IsOk l.yielded;
  texts : joined l.texts.items ≡ joined l.fn.texts.items ++ flat_map text_or_none l.yielded;
  count : length l.texts.items ≡ length l.fn.texts.items + length l.yielded;
}
