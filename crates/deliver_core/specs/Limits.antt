-- The capacity of an outlet.
use Rattle.std.specs.Prelude.{ℕ}

-- the greatest number of messages that wait in an outlet
abbrev pub most_waiting : ℕ
most_waiting = 64
