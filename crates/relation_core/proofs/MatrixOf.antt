-- Each two shapes have a matrix, so a relation has the same meaning for their matrix and for the
-- two sets.
use Rattle.std.proofs.Common.{◌≡◌, ◌↔◌, ℕ, Bool, true, arith, inl, inr}
use Rattle.std.specs.Prelude.{ℤ, ◌<ℤ◌}
use Rattle.std.proofs.lemmas.Int.{ints, by_lt_z}
use Rattle.geom_core.specs.declared.span.Span.{Span}
use Rattle.geom_core.specs.declared.shape.Shape.{Shape}
use Rattle.relation_core.specs.declared.matrix.Matrix.{Matrix}
use Rattle.relation_core.specs.declared.meeting.Meeting.{Meeting}
use Rattle.relation_core.specs.declared.meeting.Meeting.TheVariants.{Disjoint, Meet, Overlap, Inside, CoveredBy, Contains, Covers, Equal, PointDisjoint, PointAtEnd}
use Rattle.relation_core.specs.declared.meeting.Meeting.TheVariants.{PointInside, DisjointPoint, EndAtPoint, ContainsPoint, PointsDisjoint, PointsEqual}
use Rattle.relation_core.specs.declared.relation.Relation.TheVariants as relations
use Rattle.relation_core.specs.Meetings.{IsMeeting}
use Rattle.relation_core.specs.Axes.{matrix_by}
use Rattle.relation_core.specs.declared.relation.Relation.{Relation}
use Rattle.relation_core.specs.declared.mask.Mask.{Mask}
use Rattle.relation_core.specs.Matrices.{IsMatrix}
use Rattle.relation_core.specs.Masks.{Fits}
use Rattle.geom_core.specs.Shapes.{dim_of}
use Rattle.relation_core.specs.Relations.{FitsOne, Holds, masks}
use Rattle.relation_core.specs.Relations.{HoldsOfSets}
use Rattle.relation_core.proofs.PartLemmas.{matrix_holds}
use Rattle.relation_core.proofs.RelationLaws.{fits_where_holds, disjoint_law, intersects_law, touches_law, within_law, contains_law, equals_law}
use Rattle.relation_core.proofs.RelationLaws.{covers_law, covered_by_law, contains_properly_law}

by_order : {P : Type 0} (x y : ℤ) → (x <ℤ y → P) → (x ≡ y → P) → (y <ℤ x → P) → P
by_order x y below same above = by_lt_z x y below (λ h. by_lt_z y x above (λ k. same (omega (arith, ints))))

abbrev Some : Span → Span → Type 0
Some a b = (m : Meeting) × IsMeeting m a b

overlapping : (a b : Span) → a.lo <ℤ a.hi → b.lo <ℤ b.hi → b.lo <ℤ a.hi → a.lo <ℤ b.hi → Some a b
overlapping a b p q r t =
    by_order a.lo b.lo
    (λ l. by_order a.hi b.hi (λ h. (Overlap, inl (l, r, h))) (λ h. (Covers, inr (l, r, h))) (λ h. (Contains, (l, q, h))))
    (λ l. by_order a.hi b.hi (λ h. (CoveredBy, inl (l, r, h))) (λ h. (Equal, (l, r, h))) (λ h. (Covers, inl (l, q, h))))
    (λ l. by_order a.hi b.hi (λ h. (Inside, (l, p, h))) (λ h. (CoveredBy, inr (l, p, h))) (λ h. (Overlap, inr (l, t, h))))

both_long : (a b : Span) → a.lo <ℤ a.hi → b.lo <ℤ b.hi → Some a b
both_long a b p q =
    by_order a.hi b.lo
    (λ r. (Disjoint, inl (p, r, q)))
    (λ r. (Meet, inl (p, r, q)))
    (λ r. by_order a.lo b.hi
    (λ t. overlapping a b p q r t)
    (λ t. (Meet, inr (omega (arith, ints), t, omega (arith, ints))))
    (λ t. (Disjoint, inr (q, t, p))))

first_point : (a b : Span) → a.lo ≡ a.hi → b.lo <ℤ b.hi → Some a b
first_point a b p q =
    by_order a.hi b.lo
    (λ r. (PointDisjoint, inl (p, r, q)))
    (λ r. (PointAtEnd, inl (p, r, q)))
    (λ r. by_order a.hi b.hi
    (λ t. (PointInside, (omega (arith, ints), p, t)))
    (λ t. (PointAtEnd, inr (omega (arith, ints), p, t)))
    (λ t. (PointDisjoint, inr (q, omega (arith, ints), p))))

second_point : (a b : Span) → a.lo <ℤ a.hi → b.lo ≡ b.hi → Some a b
second_point a b p q =
    by_order b.hi a.lo
    (λ r. (DisjointPoint, inl (q, r, p)))
    (λ r. (EndAtPoint, inl (omega (arith, ints), q, omega (arith, ints))))
    (λ r. by_order b.hi a.hi
    (λ t. (ContainsPoint, (omega (arith, ints), q, t)))
    (λ t. (EndAtPoint, inr (p, omega (arith, ints), q)))
    (λ t. (DisjointPoint, inr (p, omega (arith, ints), q))))

both_points : (a b : Span) → a.lo ≡ a.hi → b.lo ≡ b.hi → Some a b
both_points a b p q =
    by_order a.hi b.lo
    (λ r. (PointsDisjoint, inl (p, r, q)))
    (λ r. (PointsEqual, (p, r, q)))
    (λ r. (PointsDisjoint, inr (q, omega (arith, ints), p)))

some_meeting : (a b : Span) → Some a b
some_meeting a b =
    by_lt_z a.lo a.hi
    (λ p. by_lt_z b.lo b.hi (both_long a b p) (λ q. second_point a b p (omega (arith, ints))))
    (λ p. by_lt_z b.lo b.hi (first_point a b (omega (arith, ints))) (λ q. both_points a b (omega (arith, ints)) (omega (arith, ints))))

-- each two shapes have a matrix
pub some_matrix : (a b : Shape) → (m : Matrix) × IsMatrix a b m
some_matrix a b =
    let (p, h) = some_meeting a.x b.x in
    let (q, k) = some_meeting a.y b.y in
    (matrix_by p q, matrix_holds a b p q h k)

-- the matrix of two shapes, of which there is one
pub matrix_of : Shape → Shape → Matrix
matrix_of a b = (some_matrix a b).0

pub matrix_of_is : (a b : Shape) → IsMatrix a b (matrix_of a b)
unfolding matrix_of
matrix_of_is a b = (some_matrix a b).1

-- the meaning of the matrix for a relation is that of the relation
holds_by : (r : Relation) (a b : Shape) (P : Type 0) → ((m : Matrix) → IsMatrix a b m → FitsOne (masks r (dim_of a) (dim_of b)) m ↔ P) → Holds r a b ↔ P
holds_by r a b P law = (
  λ h. (law h.matrix h.is).0 h.fits,
  λ p. let is = matrix_of_is a b in record { matrix = matrix_of a b; is = is; fits = (law (matrix_of a b) is).1 p },
)

-- the meaning of a relation for two sets holds if and only if one of its masks fits
pub sets_law : (r : Relation) (a b : Shape) → Holds r a b ↔ HoldsOfSets r a b
sets_law (relations.Mask m) a b = (λ h. h, λ h. h)
sets_law relations.Disjoint a b = holds_by relations.Disjoint a b _ (disjoint_law a b)
sets_law relations.Intersects a b = holds_by relations.Intersects a b _ (intersects_law a b)
sets_law relations.Touches a b = holds_by relations.Touches a b _ (touches_law a b)
sets_law relations.Crosses a b = (λ h. h, λ h. h)
sets_law relations.Within a b = holds_by relations.Within a b _ (within_law a b)
sets_law relations.Contains a b = holds_by relations.Contains a b _ (contains_law a b)
sets_law relations.Overlaps a b = (λ h. h, λ h. h)
sets_law relations.Equals a b = holds_by relations.Equals a b _ (equals_law a b)
sets_law relations.Covers a b = holds_by relations.Covers a b _ (covers_law a b)
sets_law relations.CoveredBy a b = holds_by relations.CoveredBy a b _ (covered_by_law a b)
sets_law relations.ContainsProperly a b = holds_by relations.ContainsProperly a b _ (contains_properly_law a b)

-- the meaning of a test of a relation of two shapes
pub record Tells (r : Relation) (a b : Shape) (answer : Bool) : Type 0 where
  pub masks : (answer ≡ true) ↔ Holds r a b
  pub sets : (answer ≡ true) ↔ HoldsOfSets r a b

-- a test of the two sets
pub by_sets : (r : Relation) (a b : Shape) (answer : Bool) → (answer ≡ true) ↔ HoldsOfSets r a b → Tells r a b answer
by_sets r a b answer test = let law = sets_law r a b in record { masks = (λ e. law.1 (test.0 e), λ h. test.1 (law.0 h)); sets = test }

-- a test of their matrix
pub by_matrix : (r : Relation) (a b : Shape) (m : Matrix) (answer : Bool) → IsMatrix a b m →
    (answer ≡ true) ↔ FitsOne (masks r (dim_of a) (dim_of b)) m → Tells r a b answer
by_matrix r a b m answer is test =
    let fits = fits_where_holds r a b m is in
    let law = sets_law r a b in record {
      masks = (λ e. fits.0 (test.0 e), λ h. test.1 (fits.1 h));
      sets = (λ e. law.0 (fits.0 (test.0 e)), λ s. test.1 (fits.1 (law.1 s)));
    }

-- the same, for the two dimensions
pub by_dims : (r : Relation) (a b : Shape) (m : Matrix) (answer : Bool) (da db : ℕ) → IsMatrix a b m → da ≡ dim_of a → db ≡ dim_of b →
    (answer ≡ true) ↔ FitsOne (masks r da db) m → Tells r a b answer
by_dims r a b m answer da db is e f test = by_matrix r a b m answer is (rw (e, f) at test)

-- a test of one mask
pub by_mask : (mask : Mask) (a b : Shape) (m : Matrix) (answer : Bool) → IsMatrix a b m →
    (answer ≡ true) ↔ Fits mask m → Tells (relations.Mask mask) a b answer
by_mask mask a b m answer is test =
    by_matrix (relations.Mask mask) a b m answer is (λ e. inl (test.0 e), λ f. elim f [ inl k ↦ test.1 k | inr x ↦ absurd x ])

-- the meaning of a test that decides a relation, for the masks and for the two sets
module _ (r : Relation) (a b : Shape) (answer : Bool) (told : Tells r a b answer) where
  pub masks_told : (answer ≡ true) ↔ Holds r a b
  masks_told = told.masks

  pub sets_told : (answer ≡ true) ↔ HoldsOfSets r a b
  sets_told = told.sets
