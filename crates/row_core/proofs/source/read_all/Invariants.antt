use Rattle.std.proofs.Common.{◌≡◌, ◌-◌, ◌≤◌, false, length}
use Rattle.std.specs.Io.KnownBytes.{Consumes}
use Rattle.row_core.specs.Limits.{most_file_bytes}
use Rattle.row_core.proofs.source.read_all.Given as goal

abbrev pub invariant-loop-count : goal.invariant-loop-count
invariant-loop-count g l =
    (g.S.Source.has_failed l.source ≡ false)
    × Consumes (g.S.Source.remaining l.initial.source) (g.S.Source.remaining l.source) l.all.items
    × (length l.all.items ≤ l.most)
    × (l.most ≡ most_file_bytes l.fn.limits)

abbrev pub decreases-loop-count : goal.decreases-loop-count
decreases-loop-count g l = l.most - length l.all.items
