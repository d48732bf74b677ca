-- The distance up to which features are measured.
use Rattle.std.specs.Prelude.{ℕ, Option, None, Some}
use Rattle.distance_core.specs.declared.distance.Distance.{Distance}
use Rattle.distance_core.specs.declared.query.Query.{Query}
use Rattle.distance_core.specs.Limits.{greatest_distance}
use Rattle.distance_core.specs.Units.{units_of}
use Rattle.distance_core.specs.Queries.{within_of}

abbrev pub limit_in : Option Distance → ℕ
limit_in None = greatest_distance
limit_in (Some distance) = units_of distance

-- that of the query, in units, or where it has none the greatest distance, which no two geometries
-- are further apart
abbrev pub limit_of : Query → ℕ
limit_of query = limit_in (within_of query)
