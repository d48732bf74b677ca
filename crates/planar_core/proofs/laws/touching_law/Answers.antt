use Rattle.std.proofs.Common.{arith, ◌∙◌}
use Rattle.distance_core.specs.ShapePoints.{HasPoint, IsPointOf}
use Rattle.distance_core.specs.Fractions.{numerator_of}
use Rattle.plane_core.proofs.PartScaleLemmas.{part_of-same_place}
use Rattle.planar_core.specs.BoxPoints.{box_at_place}
use Rattle.planar_core.proofs.BoxLemmas.{as_fraction}
use Rattle.planar_core.proofs.BoxTouchLemmas as boxes
use Rattle.planar_core.proofs.TouchLemmas.{touching}
use Rattle.planar_core.proofs.laws.touching_law.Goals as goal

pub returns-clause-cells : goal.returns-clause-cells
returns-clause-cells c = boxes.touching

pub returns-clause-boxes : goal.returns-clause-boxes
returns-clause-boxes c a b n is =
    touching (HasPoint a) (HasPoint b) n 1 (omega arith) (box_at_place b) (as_fraction (HasPoint a) (HasPoint b) n is)

pub returns-clause-geometries : goal.returns-clause-geometries
returns-clause-geometries c g h square is =
    touching (IsPointOf g) (IsPointOf h) (numerator_of square) square.denominator square.positive
    (λ p q wide_p wide_q same in_ out. in_ (part_of-same_place h p q wide_p wide_q same ∙ out)) is
