-- What a relation implies of the envelopes of two geometries that stand in it.
use Rattle.std.specs.Prelude.{◌≡◌, ℕ, All}
use Rattle.geom_core.specs.declared.shape.Shape.{Shape}
use Rattle.geom_core.specs.Cells.{Meets, IsIn}
use Rattle.geom_core.specs.Sets.{AreSameSet}
use Rattle.relation_core.specs.declared.extent.Extent.TheVariants.{Empty}
use Rattle.relation_core.specs.declared.pattern_value.PatternValue.TheVariants.{Exactly}
use Rattle.relation_core.specs.declared.mask.Mask.{Mask}
use Rattle.relation_core.specs.declared.relation.Relation.{Relation}
use Rattle.relation_core.specs.Relations.{masks}
use Rattle.plane_core.specs.Figures.{Figure}
use Rattle.plane_core.specs.Vertices.{vertices_of, HoldsVertex}
use Rattle.any_relation_core.specs.declared.envelope_rule.EnvelopeRule.{EnvelopeRule}
use Rattle.any_relation_core.specs.declared.envelope_rule.EnvelopeRule.TheVariants.{Meet, Equal}
use Rattle.any_relation_core.specs.declared.envelope_rule.EnvelopeRule.TheVariants.{FirstInSecond}
use Rattle.any_relation_core.specs.declared.envelope_rule.EnvelopeRule.TheVariants.{SecondInFirst}

-- the least box that holds all vertices of a geometry
pub record IsEnvelope (g : Figure) (s : Shape) : Type 0 where
  pub holds : All (HoldsVertex s) (vertices_of g)
  pub least : (t : Shape) → All (HoldsVertex t) (vertices_of g) → IsIn s t

-- no point of the first geometry may be in the exterior of the second, as by **F**F***
pub record PutsFirstInSecond (mask : Mask) : Type 0 where
  pub interior : mask.rows.interior.exterior ≡ Exactly Empty
  pub boundary : mask.rows.boundary.exterior ≡ Exactly Empty

-- no point of the second geometry may be in the exterior of the first, as by ******FF*
pub record PutsSecondInFirst (mask : Mask) : Type 0 where
  pub interior : mask.rows.exterior.interior ≡ Exactly Empty
  pub boundary : mask.rows.exterior.boundary ≡ Exactly Empty

-- by each mask of the relation, for geometries of any dimensions
abbrev pub ImpliesFirstInSecond : Relation → Type 0
ImpliesFirstInSecond relation = (da db : ℕ) → All PutsFirstInSecond (masks relation da db)

abbrev pub ImpliesSecondInFirst : Relation → Type 0
ImpliesSecondInFirst relation = (da db : ℕ) → All PutsSecondInFirst (masks relation da db)

-- the boxes meet, and the one lies in the other where the masks of the relation imply it of the
-- geometries; edges may touch, and boxes of which each lies in the other are equal
pub record AllowsBoxes (relation : Relation) (s t : Shape) : Type 0 where
  pub meet : Meets s t
  pub first : ImpliesFirstInSecond relation → IsIn s t
  pub second : ImpliesSecondInFirst relation → IsIn t s

-- the rule that the masks of a relation imply
abbrev pub IsRuleOf : Relation → EnvelopeRule → Type 0
IsRuleOf relation Meet =
    ¬ (ImpliesFirstInSecond relation) × ¬ (ImpliesSecondInFirst relation)
IsRuleOf relation FirstInSecond =
    ImpliesFirstInSecond relation × ¬ (ImpliesSecondInFirst relation)
IsRuleOf relation SecondInFirst =
    ¬ (ImpliesFirstInSecond relation) × ImpliesSecondInFirst relation
IsRuleOf relation Equal = ImpliesFirstInSecond relation × ImpliesSecondInFirst relation

-- two boxes satisfy a rule
abbrev pub AreAllowed : EnvelopeRule → Shape → Shape → Type 0
AreAllowed Meet s t = Meets s t
AreAllowed FirstInSecond s t = IsIn s t
AreAllowed SecondInFirst s t = IsIn t s
AreAllowed Equal s t = AreSameSet s t
