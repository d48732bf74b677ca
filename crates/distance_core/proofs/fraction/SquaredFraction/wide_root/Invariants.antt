use Rattle.std.proofs.Common.{◌-◌, ◌≤◌, ◌<◌, ◌*◌}
use Rattle.distance_core.specs.Limits.{greatest_distance}
use Rattle.distance_core.specs.Fractions.{numerator_of}
use Rattle.distance_core.specs.FractionRoots.{IsRootFrom}
use Rattle.distance_core.proofs.fraction.SquaredFraction.wide_root.Given as goal

abbrev pub invariant-loop-root : goal.invariant-loop-root
invariant-loop-root l = record {
  from : IsRootFrom (numerator_of l.self) l.self.denominator l.root;
  below : 4 * numerator_of l.self < ((2 * l.above - 1) * (2 * l.above - 1)) * l.self.denominator;
  order : l.root < l.above;
  bound : l.above ≤ greatest_distance;
}

abbrev pub decreases-loop-root : goal.decreases-loop-root
decreases-loop-root l = l.above - l.root
