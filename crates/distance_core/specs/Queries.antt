-- Which neighbours a query asks for.
use Rattle.std.specs.Prelude.{ℕ, ◌*◌, ◌≤◌, Option, None, Some}
use Rattle.distance_core.specs.declared.distance.Distance.{Distance}
use Rattle.distance_core.specs.Units.{units_of}
use Rattle.distance_core.specs.declared.query.Query.{Query}

-- the number of neighbours
abbrev pub most_of : Query → ℕ
most_of query = query.most

-- the distance within which they are sought, if there is one
abbrev pub within_of : Query → Option Distance
within_of query = query.within

-- the squared distance is at most the square of that distance, if there is one
abbrev pub IsInReach : Option Distance → ℕ → Type 0
IsInReach None square = Unit {0}
IsInReach (Some distance) square = square ≤ units_of distance * units_of distance
