-- The limits of the number of entries or children of a node (Guttman 1984, 2).
use Rattle.std.specs.Prelude.{ℕ}

-- the least number in a node other than the root (Guttman's m)
abbrev pub fewest : ℕ
fewest = 3

-- the greatest number in a node (Guttman's M)
abbrev pub most : ℕ
most = 8
