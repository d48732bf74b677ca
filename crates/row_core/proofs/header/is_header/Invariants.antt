use Rattle.std.proofs.Common.{◌≡◌, ◌<◌, ℕ, [], get_or, map}
use Rattle.csv.specs.Records.{fields_of}
use Rattle.row_core.specs.Rows.{lowercase}
use Rattle.row_core.proofs.header.is_header.Given as goal

-- the names so far are those of the columns
abbrev pub invariant-loop-i : goal.invariant-loop-i
invariant-loop-i l =
    (k : ℕ) → k < l.i → get_or (lowercase (fields_of l.row)) k [] ≡ get_or (lowercase (map (λ c. c.now) l.columns)) k []
