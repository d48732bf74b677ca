-- The bytes of a text that a run writes.
use Rattle.std.specs.Prelude.{ℕ, List}
use Rattle.std.specs.String.{string_bytes}
use Rattle.report_core.specs.Written.{joined}
use Rattle.run_core.specs.declared.text.Text.{Text}
use Rattle.run_core.specs.declared.text.Text.TheVariants as text

abbrev pub bytes_of_text : Text → List ℕ
bytes_of_text (text.Lines lines) = lines
bytes_of_text (text.Rows rows) = rows.items
bytes_of_text (text.Picture picture) = string_bytes picture
bytes_of_text (text.Report texts) = joined texts.items
