-- The limit of a picture.
use Rattle.std.specs.Prelude.{ℕ}

-- the greatest number of features of both layers together that are drawn
abbrev pub most_drawn : ℕ
most_drawn = 100000
