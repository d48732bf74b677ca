use Rattle.std.proofs.Common.{◌≡◌, ◌<◌, ℕ, false, length, map, take, get_or}
use Rattle.row_core.specs.FirstLines.{is_line_end, most_told, shown}
use Rattle.row_core.proofs.first_line.FirstLine.new.Given as goal

abbrev pub invariant-loop-place : goal.invariant-loop-place
invariant-loop-place l =
    (length l.told ≡ most_told)
    × (take l.place l.told ≡ map shown (take l.place l.fn.bytes))
    × ((other : ℕ) → other < l.place → is_line_end (get_or l.fn.bytes other 0) ≡ false)
