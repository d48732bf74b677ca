use Rattle.distance_core.specs.ShapePoints.{IsPointOf}
use Rattle.distance_core.specs.Fractions.{numerator_of}
use Rattle.distance_core.proofs.MeetingLemmas.{within_by_fraction}
use Rattle.geometry_distance_core.proofs.laws.within_law.Goals as goal

pub returns : goal.returns
returns c = λ g h square units is. within_by_fraction (IsPointOf g) (IsPointOf h) (numerator_of square) square.denominator units square.positive is
