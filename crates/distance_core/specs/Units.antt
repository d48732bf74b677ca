-- The units of a distance.
use Rattle.std.specs.Prelude.{ℕ}
use Rattle.distance_core.specs.declared.distance.Distance.{Distance}

abbrev pub units_of : Distance → ℕ
units_of distance = distance.units
