-- What the masks of the named relations imply of boxes.
use Rattle.std.proofs.Common.{◌≡◌, ◌↔◌, arith, refl, zero, suc}
use Rattle.geom_core.specs.declared.shape.Shape.{Shape}
use Rattle.geom_core.specs.Cells as cells
use Rattle.geom_core.specs.Sets.{AreSameSet}
use Rattle.relation_core.specs.declared.extent.Extent.TheVariants.{Empty}
use Rattle.relation_core.specs.declared.pattern_value.PatternValue.TheVariants.{Any, Exactly}
use Rattle.relation_core.specs.declared.relation.Relation.TheVariants as relations
use Rattle.relation_core.specs.Masks.{asks_nothing}
use Rattle.any_relation_core.specs.declared.envelope_rule.EnvelopeRule.TheVariants.{FirstInSecond, SecondInFirst, Equal}
use Rattle.any_relation_core.specs.EnvelopeRules.{ImpliesFirstInSecond, ImpliesSecondInFirst, AllowsBoxes}
use Rattle.any_relation_core.proofs.BoxLemmas.{allows_as}

equals_first : ImpliesFirstInSecond relations.Equals
equals_first da db zero d lt = record { interior = refl; boundary = refl }
equals_first da db (suc k) d lt = absurd (omega (arith, lt))

equals_second : ImpliesSecondInFirst relations.Equals
equals_second da db zero d lt = record { interior = refl; boundary = refl }
equals_second da db (suc k) d lt = absurd (omega (arith, lt))

pub equals_boxes : (s t : Shape) → AllowsBoxes relations.Equals s t ↔ AreSameSet s t
equals_boxes s t = allows_as relations.Equals s t Equal (equals_first, equals_second)

-- ---- the first in the second

within_first : ImpliesFirstInSecond relations.Within
within_first da db zero d lt = record { interior = refl; boundary = refl }
within_first da db (suc k) d lt = absurd (omega (arith, lt))

within_second : ¬ (ImpliesSecondInFirst relations.Within)
within_second implies = let never : Any ≡ Exactly Empty = (implies 1 1 0 asks_nothing (omega arith)).interior in cc

pub within_boxes : (s t : Shape) → AllowsBoxes relations.Within s t ↔ cells.IsIn s t
within_boxes s t = allows_as relations.Within s t FirstInSecond (within_first, within_second)

covered_first : ImpliesFirstInSecond relations.CoveredBy
covered_first da db zero d lt = record { interior = refl; boundary = refl }
covered_first da db (suc zero) d lt = record { interior = refl; boundary = refl }
covered_first da db (suc (suc zero)) d lt = record { interior = refl; boundary = refl }
covered_first da db (suc (suc (suc zero))) d lt = record { interior = refl; boundary = refl }
covered_first da db (suc (suc (suc (suc k)))) d lt = absurd (omega (arith, lt))

covered_second : ¬ (ImpliesSecondInFirst relations.CoveredBy)
covered_second implies = let never : Any ≡ Exactly Empty = (implies 1 1 0 asks_nothing (omega arith)).interior in cc

pub covered_by_boxes : (s t : Shape) → AllowsBoxes relations.CoveredBy s t ↔ cells.IsIn s t
covered_by_boxes s t = allows_as relations.CoveredBy s t FirstInSecond (covered_first, covered_second)

-- ---- the second in the first

contains_first : ¬ (ImpliesFirstInSecond relations.Contains)
contains_first implies = let never : Any ≡ Exactly Empty = (implies 1 1 0 asks_nothing (omega arith)).interior in cc

contains_second : ImpliesSecondInFirst relations.Contains
contains_second da db zero d lt = record { interior = refl; boundary = refl }
contains_second da db (suc k) d lt = absurd (omega (arith, lt))

pub contains_boxes : (s t : Shape) → AllowsBoxes relations.Contains s t ↔ cells.IsIn t s
contains_boxes s t = allows_as relations.Contains s t SecondInFirst (contains_first, contains_second)

covers_first : ¬ (ImpliesFirstInSecond relations.Covers)
covers_first implies = let never : Any ≡ Exactly Empty = (implies 1 1 0 asks_nothing (omega arith)).interior in cc

covers_second : ImpliesSecondInFirst relations.Covers
covers_second da db zero d lt = record { interior = refl; boundary = refl }
covers_second da db (suc zero) d lt = record { interior = refl; boundary = refl }
covers_second da db (suc (suc zero)) d lt = record { interior = refl; boundary = refl }
covers_second da db (suc (suc (suc zero))) d lt = record { interior = refl; boundary = refl }
covers_second da db (suc (suc (suc (suc k)))) d lt = absurd (omega (arith, lt))

pub covers_boxes : (s t : Shape) → AllowsBoxes relations.Covers s t ↔ cells.IsIn t s
covers_boxes s t = allows_as relations.Covers s t SecondInFirst (covers_first, covers_second)

properly_first : ¬ (ImpliesFirstInSecond relations.ContainsProperly)
properly_first implies = let never : Any ≡ Exactly Empty = (implies 1 1 0 asks_nothing (omega arith)).interior in cc

properly_second : ImpliesSecondInFirst relations.ContainsProperly
properly_second da db zero d lt = record { interior = refl; boundary = refl }
properly_second da db (suc k) d lt = absurd (omega (arith, lt))

pub properly_boxes : (s t : Shape) → AllowsBoxes relations.ContainsProperly s t ↔ cells.IsIn t s
properly_boxes s t = allows_as relations.ContainsProperly s t SecondInFirst (properly_first, properly_second)
