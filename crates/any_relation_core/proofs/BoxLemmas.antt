-- The envelopes of two geometries that stand in a relation lie as its masks imply.
use Rattle.std.proofs.Common.{◌≡◌, ◌↔◌, inl, inr, arith, subst, suc, List, [], ◌∷◌}
use Rattle.std.specs.Prelude.{Bool, All, IsTrue}
use Rattle.std.proofs.Math.Logic.{∥∥₁_elim}
use Rattle.std.proofs.Props.{props}
use Rattle.std.proofs.lemmas.Int.{ints}
use Rattle.geom_core.specs.declared.shape.Shape.{Shape}
use Rattle.geom_core.specs.Shapes.{x1, y1}
use Rattle.geom_core.specs.Cells as cells
use Rattle.geom_core.specs.Cells.{line, Covers, Meets}
use Rattle.relation_core.specs.declared.extent.Extent.{Extent}
use Rattle.relation_core.specs.declared.extent.Extent.TheVariants.{Empty}
use Rattle.relation_core.specs.declared.mask.Mask.{Mask}
use Rattle.relation_core.specs.declared.matrix.Matrix.{Matrix}
use Rattle.relation_core.specs.declared.pattern_value.PatternValue.{PatternValue}
use Rattle.relation_core.specs.declared.pattern_value.PatternValue.TheVariants.{Any, NotEmpty, Exactly}
use Rattle.relation_core.specs.declared.relation.Relation.{Relation}
use Rattle.relation_core.specs.declared.relation.Relation.TheVariants as relations
use Rattle.relation_core.specs.Masks.{Allows, asks_nothing}
use Rattle.relation_core.specs.Relations.{FitsOne, masks}
use Rattle.plane_core.specs.declared.part.Part.TheVariants.{Interior, Boundary, Exterior}
use Rattle.plane_core.specs.declared.rings.Rings.{Rings}
use Rattle.plane_core.specs.Figures.{Figure, dim_of}
use Rattle.plane_core.specs.PlaneMatrices.{entry}
use Rattle.plane_core.specs.ProperRings.{IsGeometryOf}
use Rattle.any_relation_core.specs.declared.envelope_rule.EnvelopeRule.{EnvelopeRule}
use Rattle.any_relation_core.specs.declared.envelope_rule.EnvelopeRule.TheVariants.{Meet, FirstInSecond, SecondInFirst, Equal}
use Rattle.any_relation_core.specs.EnvelopeRules.{IsEnvelope, PutsFirstInSecond, PutsSecondInFirst, ImpliesFirstInSecond, ImpliesSecondInFirst, AllowsBoxes, IsRuleOf, AreAllowed}
use Rattle.any_relation_core.specs.PlaneRelations.{HoldsOf, ForbidsDisjoint}
use Rattle.any_relation_core.specs.PlaneSets.{IsIn}
use Rattle.any_relation_core.proofs.FilterLemmas.{meet_or_apart, boxes_of_relation}
use Rattle.any_relation_core.proofs.SetLemmas.{is_in, holds_it}
use Rattle.any_relation_core.proofs.VertexLemmas.{holds_inner}

-- ---- what the masks ask of a matrix that one of them fits

empty_by : (value : PatternValue) (x : Extent) → value ≡ Exactly Empty → Allows value x → x ≡ Empty
empty_by value x is allows = subst (λ (v : PatternValue). Allows v x) is allows

none_of_first : (ms : List Mask) (m : Matrix) → All PutsFirstInSecond ms → FitsOne ms m → (entry m Interior Exterior ≡ Empty) × (entry m Boundary Exterior ≡ Empty)
none_of_first [] m all fits = absurd fits
none_of_first (mask ∷ ms) m all (inl fits) =
    let puts : PutsFirstInSecond mask = all 0 mask (omega arith) in
    (empty_by _ _ puts.interior fits.interior.exterior, empty_by _ _ puts.boundary fits.boundary.exterior)
none_of_first (mask ∷ ms) m all (inr fits) = none_of_first ms m (λ k d lt. all (suc k) d (omega arith)) fits

none_of_second : (ms : List Mask) (m : Matrix) → All PutsSecondInFirst ms → FitsOne ms m → (entry m Exterior Interior ≡ Empty) × (entry m Exterior Boundary ≡ Empty)
none_of_second [] m all fits = absurd fits
none_of_second (mask ∷ ms) m all (inl fits) =
    let puts : PutsSecondInFirst mask = all 0 mask (omega arith) in
    (empty_by _ _ puts.interior fits.exterior.interior, empty_by _ _ puts.boundary fits.exterior.boundary)
none_of_second (mask ∷ ms) m all (inr fits) = none_of_second ms m (λ k d lt. all (suc k) d (omega arith)) fits

-- ---- and so of the geometries and their envelopes

module _ (relation : Relation) (g h : Figure) (holds : HoldsOf relation g h) where
  first_in_second : ImpliesFirstInSecond relation → IsIn g h
  first_in_second implies =
      let none = none_of_first (masks relation (dim_of g) (dim_of h)) holds.matrix (implies (dim_of g) (dim_of h)) holds.fits in
      is_in g h holds.matrix holds.is none.0 none.1

  second_in_first : ImpliesSecondInFirst relation → IsIn h g
  second_in_first implies =
      let none = none_of_second (masks relation (dim_of g) (dim_of h)) holds.matrix (implies (dim_of g) (dim_of h)) holds.fits in
      holds_it g h holds.matrix holds.is none.0 none.1

pub allows_envelopes : (rings : Rings) (relation : Relation) (g h : Figure) (s t : Shape) → ForbidsDisjoint rings relation → IsGeometryOf rings g → IsGeometryOf rings h
    → IsEnvelope g s → IsEnvelope h t → HoldsOf relation g h → AllowsBoxes relation s t
allows_envelopes rings relation g h s t forbids is_g is_h of_g of_h holds = record {
  meet = meet_or_apart s t (boxes_of_relation rings relation g h s t forbids is_g is_h of_g.holds of_h.holds holds);
  first = λ implies. of_g.least t (holds_inner g h t is_g.0 is_h.0 of_h.holds (first_in_second relation g h holds implies));
  second = λ implies. of_h.least s (holds_inner h g s is_h.0 is_g.0 of_g.holds (second_in_first relation g h holds implies));
}

-- ---- the masks for two lines tell of all

pub first_by_lines : (relation : Relation) → All PutsFirstInSecond (masks relation 1 1) → ImpliesFirstInSecond relation
first_by_lines relations.Touches all da db = let never : Any ≡ Exactly Empty = (all 0 asks_nothing (omega arith)).interior in absurd cc
first_by_lines relations.Crosses all da db = let never : Any ≡ Exactly Empty = (all 0 asks_nothing (omega arith)).interior in absurd cc
first_by_lines relations.Overlaps all da db = let never : NotEmpty ≡ Exactly Empty = (all 0 asks_nothing (omega arith)).interior in absurd cc
first_by_lines relation all da db = all

pub second_by_lines : (relation : Relation) → All PutsSecondInFirst (masks relation 1 1) → ImpliesSecondInFirst relation
second_by_lines relations.Touches all da db = let never : Any ≡ Exactly Empty = (all 0 asks_nothing (omega arith)).interior in absurd cc
second_by_lines relations.Crosses all da db = let never : Any ≡ Exactly Empty = (all 0 asks_nothing (omega arith)).interior in absurd cc
second_by_lines relations.Overlaps all da db = let never : NotEmpty ≡ Exactly Empty = (all 0 asks_nothing (omega arith)).interior in absurd cc
second_by_lines relation all da db = all

pub ruleset by_lines = (first_by_lines, second_by_lines)

-- ---- the rule of a relation

corner : (s : Shape) → Covers s (line (x1 s)) (line (y1 s))
corner s =
    let along = s.x.ordered in
    let up = s.y.ordered in
    ((omega (arith, ints), omega (arith, ints)), (omega (arith, ints), omega (arith, ints)))

inner_meets : (s t : Shape) → cells.IsIn s t → Meets s t
inner_meets s t within = (line (x1 s), line (y1 s), corner s, within (line (x1 s)) (line (y1 s)) (corner s))

outer_meets : (s t : Shape) → cells.IsIn t s → Meets s t
outer_meets s t within = (line (x1 t), line (y1 t), within (line (x1 t)) (line (y1 t)) (corner t), corner t)

allowed_meet : (c : EnvelopeRule) (s t : Shape) → AreAllowed c s t → Meets s t
allowed_meet Meet s t allowed = allowed
allowed_meet FirstInSecond s t allowed = inner_meets s t allowed
allowed_meet SecondInFirst s t allowed = outer_meets s t allowed
allowed_meet Equal s t allowed = inner_meets s t allowed.0

module _ (relation : Relation) (s t : Shape) where
  allowed_first : (c : EnvelopeRule) → IsRuleOf relation c → AreAllowed c s t → ImpliesFirstInSecond relation → cells.IsIn s t
  allowed_first Meet is allowed implies = absurd (is.0 implies)
  allowed_first FirstInSecond is allowed implies = allowed
  allowed_first SecondInFirst is allowed implies = absurd (is.0 implies)
  allowed_first Equal is allowed implies = allowed.0

  allowed_second : (c : EnvelopeRule) → IsRuleOf relation c → AreAllowed c s t → ImpliesSecondInFirst relation → cells.IsIn t s
  allowed_second Meet is allowed implies = absurd (is.1 implies)
  allowed_second FirstInSecond is allowed implies = absurd (is.1 implies)
  allowed_second SecondInFirst is allowed implies = allowed
  allowed_second Equal is allowed implies = allowed.1

  allowed_all : (c : EnvelopeRule) → IsRuleOf relation c → AllowsBoxes relation s t → AreAllowed c s t
  allowed_all Meet is allows = allows.meet
  allowed_all FirstInSecond is allows = allows.first is.0
  allowed_all SecondInFirst is allows = allows.second is.1
  allowed_all Equal is allows = (allows.first is.0, allows.second is.1)

  pub allows_as : (c : EnvelopeRule) → IsRuleOf relation c → AllowsBoxes relation s t ↔ AreAllowed c s t
  allows_as c is = (
    allowed_all c is,
    λ allowed. record { meet = allowed_meet c s t allowed; first = allowed_first c is allowed; second = allowed_second c is allowed },
  )

  -- a test of the rule is one of the boxes
  pub allows_by : (c : EnvelopeRule) (answer : Bool) → ∥ IsRuleOf relation c ∥₁ → IsTrue answer ↔ AreAllowed c s t → IsTrue answer ↔ AllowsBoxes relation s t
  allows_by c answer some tells = (
    λ yes. record {
      meet = allowed_meet c s t (tells.0 yes);
      first = λ implies. ∥∥₁_elim some (hlevel props) (λ is. allowed_first c is (tells.0 yes) implies);
      second = λ implies. ∥∥₁_elim some (hlevel props) (λ is. allowed_second c is (tells.0 yes) implies);
    },
    λ allows. ∥∥₁_elim some (hlevel props) (λ is. tells.1 (allowed_all c is allows)),
  )
