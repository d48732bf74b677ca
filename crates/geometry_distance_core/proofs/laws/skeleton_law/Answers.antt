use Rattle.distance_core.specs.Fractions.{numerator_of}
use Rattle.geometry_distance_core.proofs.SkeletonLemmas.{apart_least}
use Rattle.geometry_distance_core.proofs.laws.skeleton_law.Goals as goal

pub returns : goal.returns
returns c = λ g h square. apart_least g h (numerator_of square) square.denominator
