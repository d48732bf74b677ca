use Rattle.std.proofs.Common.{arith}
use Rattle.std.proofs.lemmas.Int.{ints, clamps}
use Rattle.geom_core.specs.Joined.{same_ends}
use Rattle.near_core.proofs.grown.grow.Goals as goal

pub invariant_of-result : goal.invariant_of-result
invariant_of-result c = record { ordered = omega (arith, ints, clamps); above = omega (arith, ints, clamps); below = omega (arith, ints, clamps) }

pub returns : goal.returns
returns c = same_ends _ _ (omega (arith, ints, clamps)) (omega (arith, ints, clamps))
