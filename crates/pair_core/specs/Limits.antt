-- The greatest numbers of workers, pairs and rounds.
use Rattle.std.specs.Prelude.{ℕ}

-- the greatest number of workers of a join, each with a seat at the board and a port of the outlet
abbrev pub most_workers : ℕ
most_workers = 16

-- the greatest number of pairs of a batch
abbrev pub most_batch : ℕ
most_batch = 4096

-- the greatest number of rounds in which the two trees are cut into tasks
abbrev pub most_cut : ℕ
most_cut = 8
