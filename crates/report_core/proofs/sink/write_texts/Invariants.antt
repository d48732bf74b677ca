use Rattle.std.proofs.Common.{◌≡◌, false, take}
use Rattle.std.specs.Io.KnownBytes.{Appends}
use Rattle.report_core.specs.Written.{joined}
use Rattle.report_core.proofs.sink.write_texts.Given as goal

abbrev pub invariant-loop-text : goal.invariant-loop-text
invariant-loop-text g l =
    (g.S.Sink.has_failed l.sink ≡ false)
    × Appends (g.S.Sink.written l.initial.sink) (g.S.Sink.written l.sink) (joined (take l.text-index l.texts))
