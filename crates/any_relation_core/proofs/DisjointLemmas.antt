-- The matrix of two geometries without a common point is that of their classes.
use Rattle.std.proofs.Common.{◌≡◌, ◌≢◌, inl, inr, refl, sym, subst, ◌∙◌}
use Rattle.std.specs.Prelude.{⊤}
use Rattle.relation_core.specs.declared.matrix.Matrix.{Matrix}
use Rattle.relation_core.specs.declared.relation.Relation.{Relation}
use Rattle.relation_core.specs.Relations.{FitsOne, masks}
use Rattle.plane_core.specs.declared.part.Part.{Part}
use Rattle.plane_core.specs.declared.part.Part.TheVariants.{Interior, Boundary, Exterior}
use Rattle.plane_core.specs.Figures.{Figure, IsGeometry, dim_of, part_of}
use Rattle.plane_core.specs.PlaneMatrices.{IsInBoth, SharePoint, IsEntry, IsPlaneMatrix, entry}
use Rattle.plane_core.specs.ProperRings.{IsGeometryOf}
use Rattle.plane_core.proofs.OnePlaneMatrix.{one_plane_matrix}
use Rattle.noding_core.proofs.OutsideLemmas.{outside_triangle}
use Rattle.any_relation_core.specs.declared.class.Class.{Class}
use Rattle.any_relation_core.specs.declared.class.Class.TheVariants.{Points, OpenLines, ClosedLines, Areas, HollowAreas}
use Rattle.plane_core.specs.declared.rings.Rings.{Rings}
use Rattle.plane_core.specs.declared.rings.Rings.TheVariants.{Proper, EvenOdd}
use Rattle.any_relation_core.specs.Classes.{interior_of, boundary_of, apart_matrix, classes, SomeClass, FitsApart, AllowsApart}
use Rattle.any_relation_core.specs.PlaneRelations.{HoldsOf, AreDisjoint, ForbidsDisjoint}
use Rattle.any_relation_core.proofs.ShareLemmas.{IsPart, entry_same}
use Rattle.any_relation_core.proofs.PartLemmas.{IsInPart}
use Rattle.any_relation_core.proofs.SlantLemmas.{geometry_inside}
use Rattle.any_relation_core.proofs.ExtentLemmas.{IsOfClass, class_of}

-- ---- what lies in the one is outside of the other

none_outside : (i : Part) → (i ≢ Exterior → ⊥) → i ≡ Exterior
none_outside Interior h = absurd (h (λ e. absurd cc))
none_outside Boundary h = absurd (h (λ e. absurd cc))
none_outside Exterior h = refl

not_outside : (i j : Part) → j ≡ i → i ≢ Exterior → j ≢ Exterior
not_outside i j e n f = n (sym e ∙ f)

inner_not : Interior ≢ Exterior
inner_not e = absurd cc

outer_not : Boundary ≢ Exterior
outer_not e = absurd cc

module _ (g h : Figure) (apart : AreDisjoint g h) where
  none_shared : (i j : Part) → i ≢ Exterior → j ≢ Exterior → ¬ (SharePoint (IsInBoth g h i j))
  none_shared i j in_g in_h (p, wide, is) = apart p wide (not_outside i (part_of g p) is.first in_g) (not_outside j (part_of h p) is.second in_h)

  first_in : (i : Part) → i ≢ Exterior → IsPart (IsInPart g i) (IsInBoth g h i Exterior)
  first_in i in_g p wide is = record { first = is; second = none_outside (part_of h p) (λ in_h. apart p wide (not_outside i (part_of g p) is in_g) in_h) }

  first_out : (i : Part) → IsPart (IsInBoth g h i Exterior) (IsInPart g i)
  first_out i p wide both = both.first

  second_in : (j : Part) → j ≢ Exterior → IsPart (IsInPart h j) (IsInBoth g h Exterior j)
  second_in j in_h p wide is = record { first = none_outside (part_of g p) (λ in_g. apart p wide in_g (not_outside j (part_of h p) is in_h)); second = is }

  second_out : (j : Part) → IsPart (IsInBoth g h Exterior j) (IsInPart h j)
  second_out j p wide both = both.second

  -- ---- the nine entries

  entry_apart : (c d : Class) → IsGeometry g → IsGeometry h → IsOfClass g c → IsOfClass h d → (i j : Part) → IsEntry (IsInBoth g h i j) (entry (apart_matrix c d) i j)
  entry_apart c d good_g good_h is_c is_d Interior Interior = none_shared Interior Interior inner_not inner_not
  entry_apart c d good_g good_h is_c is_d Interior Boundary = none_shared Interior Boundary inner_not outer_not
  entry_apart c d good_g good_h is_c is_d Interior Exterior = entry_same _ _ (interior_of c) (first_in Interior inner_not) (first_out Interior) is_c.interior
  entry_apart c d good_g good_h is_c is_d Boundary Interior = none_shared Boundary Interior outer_not inner_not
  entry_apart c d good_g good_h is_c is_d Boundary Boundary = none_shared Boundary Boundary outer_not outer_not
  entry_apart c d good_g good_h is_c is_d Boundary Exterior = entry_same _ _ (boundary_of c) (first_in Boundary outer_not) (first_out Boundary) is_c.boundary
  entry_apart c d good_g good_h is_c is_d Exterior Interior = entry_same _ _ (interior_of d) (second_in Interior inner_not) (second_out Interior) is_d.interior
  entry_apart c d good_g good_h is_c is_d Exterior Boundary = entry_same _ _ (boundary_of d) (second_in Boundary outer_not) (second_out Boundary) is_d.boundary
  entry_apart c d good_g good_h is_c is_d Exterior Exterior = outside_triangle g h good_g good_h

  pub apart_is_matrix : (c d : Class) → IsGeometry g → IsGeometry h → IsOfClass g c → IsOfClass h d → IsPlaneMatrix g h (apart_matrix c d)
  apart_is_matrix c d good_g good_h is_c is_d = record { is = entry_apart c d good_g good_h is_c is_d }

  -- the classes of two geometries without a common point, from their matrix
  class_first : (m : Matrix) → IsGeometry g → IsPlaneMatrix g h m → (c : Class) × IsOfClass g c
  class_first m good is = class_of g (entry m Interior Exterior) (entry m Boundary Exterior) good
      (entry_same _ _ (entry m Interior Exterior) (first_out Interior) (first_in Interior inner_not) (is.is Interior Exterior))
      (entry_same _ _ (entry m Boundary Exterior) (first_out Boundary) (first_in Boundary outer_not) (is.is Boundary Exterior))

  class_second : (m : Matrix) → IsGeometry h → IsPlaneMatrix g h m → (d : Class) × IsOfClass h d
  class_second m good is = class_of h (entry m Exterior Interior) (entry m Exterior Boundary) good
      (entry_same _ _ (entry m Exterior Interior) (second_out Interior) (second_in Interior inner_not) (is.is Exterior Interior))
      (entry_same _ _ (entry m Exterior Boundary) (second_out Boundary) (second_in Boundary outer_not) (is.is Exterior Boundary))

-- ---- the classes that there are

abbrev pub IsTaken : Rings → Class → Type 0
IsTaken Proper Points = ⊤
IsTaken Proper OpenLines = ⊤
IsTaken Proper ClosedLines = ⊤
IsTaken Proper Areas = ⊤
IsTaken Proper HollowAreas = ⊥
IsTaken EvenOdd c = ⊤

some_class : (rings : Rings) (P : Class → Type 0) (c : Class) → IsTaken rings c → P c → SomeClass P (classes rings)
some_class Proper P Points t h = inl h
some_class Proper P OpenLines t h = inr (inl h)
some_class Proper P ClosedLines t h = inr (inr (inl h))
some_class Proper P Areas t h = inr (inr (inr (inl h)))
some_class Proper P HollowAreas t h = absurd t
some_class EvenOdd P Points t h = inl h
some_class EvenOdd P OpenLines t h = inr (inl h)
some_class EvenOdd P ClosedLines t h = inr (inr (inl h))
some_class EvenOdd P Areas t h = inr (inr (inr (inl h)))
some_class EvenOdd P HollowAreas t h = inr (inr (inr (inr (inl h))))

pub geometry_of : (rings : Rings) (g : Figure) → IsGeometryOf rings g → IsGeometry g
geometry_of rings g h = h.0

taken_of : (rings : Rings) (g : Figure) (c : Class) → IsGeometryOf rings g → IsOfClass g c → IsTaken rings c
taken_of Proper g Points h is = tt
taken_of Proper g OpenLines h is = tt
taken_of Proper g ClosedLines h is = tt
taken_of Proper g Areas h is = tt
taken_of Proper g HollowAreas h is = absurd (is.interior (geometry_inside g h.0 h.1))
taken_of EvenOdd g c h is = tt

-- a relation that holds for disjoint geometries fits the matrix of their classes
fits_classes : (relation : Relation) (g h : Figure) (c d : Class) → IsGeometry g → IsGeometry h → AreDisjoint g h → IsOfClass g c → IsOfClass h d → HoldsOf relation g h → FitsApart relation c d
fits_classes relation g h c d good_g good_h apart is_c is_d holds =
    let same = one_plane_matrix g h holds.matrix (apart_matrix c d) holds.is (apart_is_matrix g h apart c d good_g good_h is_c is_d) in
    rw (is_c.dim, is_d.dim) (subst (λ (m : Matrix). FitsOne (masks relation (dim_of g) (dim_of h)) m) same holds.fits)

-- so a relation that fits no matrix of two classes holds for no two disjoint geometries
pub forbids_disjoint : (rings : Rings) (relation : Relation) → ¬ (AllowsApart rings relation) → ForbidsDisjoint rings relation
forbids_disjoint rings relation none g h good_g good_h apart holds =
    let plain_g = geometry_of rings g good_g in
    let plain_h = geometry_of rings h good_h in
    let (c, is_c) = class_first g h apart holds.matrix plain_g holds.is in
    let (d, is_d) = class_second g h apart holds.matrix plain_h holds.is in
    none (some_class rings (λ x. SomeClass (λ y. FitsApart relation x y) (classes rings)) c (taken_of rings g c good_g is_c)
    (some_class rings (λ y. FitsApart relation c y) d (taken_of rings h d good_h is_d) (fits_classes relation g h c d plain_g plain_h apart is_c is_d holds)))
