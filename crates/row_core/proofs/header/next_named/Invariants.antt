use Rattle.std.proofs.Common.{◌<◌, ◌≤◌, ℕ}
use Rattle.csv.specs.Records.{fields_of}
use Rattle.row_core.specs.Tables.{IsNamedAt}
use Rattle.row_core.proofs.header.next_named.Given as goal

-- no place so far has the name
abbrev pub invariant-loop-place : goal.invariant-loop-place
invariant-loop-place l = (k : ℕ) → k < l.place → l.start ≤ k → ¬ (IsNamedAt l.name (fields_of l.header) k)
