use Rattle.std.proofs.Common.{◌≡◌, false}
use Rattle.std.specs.Io.KnownBytes.{Keeps}
use Rattle.row_core.proofs.source.FromReadSource.read.Given as goal

-- interrupted reads took nothing
abbrev pub invariant-tries : goal.invariant-tries
invariant-tries g l = (l.self.failed ≡ false) × Keeps (g.R.Read.remaining l.initial.self.reader) (g.R.Read.remaining l.self.reader)
