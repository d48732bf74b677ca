use Rattle.std.proofs.Common.{◌≡◌, false}
use Rattle.std.specs.Io.KnownBytes.{Keeps}
use Rattle.report_core.specs.ToWrite.{is_failed}
use Rattle.report_core.proofs.to_write.ToWriteSink.write.Given as goal

abbrev pub invariant-tries : goal.invariant-tries
invariant-tries g l =
    (is_failed l.self.state ≡ false) × Keeps (g.W.Write.contents l.initial.self.writer) (g.W.Write.contents l.self.writer)
