-- Relations of two geometries by their matrix and as sets of points.
use Rattle.std.proofs.Common.{◌≡◌, ◌≢◌, ◌↔◌, ◌<◌, ◌∙◌, inl, inr, refl, sym, subst}
use Rattle.std.specs.Prelude.{Bool, true, false, List, if◌then◌else◌}
use Rattle.std.specs.List.{list_any}
use Rattle.relation_core.specs.declared.extent.Extent.{Extent}
use Rattle.relation_core.specs.declared.extent.Extent.TheVariants.{Empty, Point as Dot, Line, Area}
use Rattle.relation_core.specs.declared.matrix.Matrix.{Matrix}
use Rattle.relation_core.specs.declared.part.Parts.{Parts}
use Rattle.relation_core.specs.declared.pattern_value.PatternValue.TheVariants.{Any, Exactly}
use Rattle.relation_core.specs.declared.relation.Relation.{Relation}
use Rattle.relation_core.specs.declared.relation.Relation.TheVariants as relations
use Rattle.relation_core.specs.Masks.{FitsRow, row}
use Rattle.relation_core.specs.Relations.{FitsOne, masks}
use Rattle.plane_core.specs.declared.part.Part.{Part}
use Rattle.plane_core.specs.declared.part.Part.TheVariants.{Interior, Boundary, Exterior}
use Rattle.plane_core.specs.declared.vertex.Vertex.{Vertex}
use Rattle.plane_core.specs.Points.{Point, is_at}
use Rattle.plane_core.specs.Figures.{Figure, IsGeometry, dim_of, part_of}
use Rattle.plane_core.specs.Figures.Figure.{Points, Lines, Areas}
use Rattle.plane_core.specs.PlaneMatrices.{IsInBoth, SharePoint, IsEntry, IsPlaneMatrix, entry, pick}
use Rattle.plane_core.proofs.OnePlaneMatrix.{segment_point, triangle_point}
use Rattle.any_relation_core.specs.PlaneRelations.{HoldsOf, AreDisjoint}
use Rattle.any_relation_core.specs.PlaneSets.{Intersect, InteriorsMeet, IsIn, LiesInside, HasCommon, HoldsOfSets}
use Rattle.any_relation_core.proofs.PartLemmas.{IsInPart, first_point, lines_segment, areas_segment}

-- an entry that isn't empty has a point
shared : (P : Point → Type 0) (x : Extent) → x ≢ Empty → IsEntry P x → SharePoint P
shared P Empty some is = absurd (some refl)
shared P Dot some is = is.0
shared P Line some is = segment_point P is.0
shared P Area some is = triangle_point P is

-- and one with a point isn't empty
not_empty : (P : Point → Type 0) (x : Extent) → SharePoint P → IsEntry P x → x ≢ Empty
not_empty P x point is same = (subst (IsEntry P) same is) point

empty : (P : Point → Type 0) (x : Extent) → ¬ (SharePoint P) → IsEntry P x → x ≡ Empty
empty P Empty none is = refl
empty P Dot none is = absurd (none is.0)
empty P Line none is = absurd (none (segment_point P is.0))
empty P Area none is = absurd (none (triangle_point P is))

interior_not : Interior ≢ Exterior
interior_not same = cc

boundary_not : Boundary ≢ Exterior
boundary_not same = cc

not_interior : Boundary ≢ Interior
not_interior same = cc

outside_not : Exterior ≢ Interior
outside_not same = cc

-- a geometry has a point
some_point : (g : Figure) → IsGeometry g → (p : Point) × (0 < p.w) × (part_of g p ≢ Exterior)
some_point (Points vs) good = let (p, wide, is) = first_point vs good in (p, wide, λ out. interior_not (sym is ∙ out))
some_point (Lines paths) good =
    let (p, wide, is) = segment_point (IsInPart (Lines paths) Interior) (lines_segment paths good) in (p, wide, λ out. interior_not (sym is ∙ out))
some_point (Areas rings) good =
    let (p, wide, is) = segment_point (IsInPart (Areas rings) Boundary) (areas_segment rings good) in (p, wide, λ out. boundary_not (sym is ∙ out))

module _ (g h : Figure) (m : Matrix) (is : IsPlaneMatrix g h m) where
  found : (i j : Part) → entry m i j ≢ Empty → SharePoint (IsInBoth g h i j)
  found i j some = shared (IsInBoth g h i j) (entry m i j) some (is.is i j)

  held : (i j : Part) → SharePoint (IsInBoth g h i j) → entry m i j ≢ Empty
  held i j some = not_empty (IsInBoth g h i j) (entry m i j) some (is.is i j)

  none : (i j : Part) → ¬ (SharePoint (IsInBoth g h i j)) → entry m i j ≡ Empty
  none i j apart = empty (IsInBoth g h i j) (entry m i j) apart (is.is i j)

  entry_at : (p : Point) → 0 < p.w → (i j : Part) → part_of g p ≡ i → part_of h p ≡ j → entry m i j ≢ Empty
  entry_at p wide i j in_g in_h = held i j (p, wide, record { first = in_g; second = in_h })

  -- ---- a common point

  of_entry : (i j : Part) → i ≢ Exterior → j ≢ Exterior → entry m i j ≢ Empty → Intersect g h
  of_entry i j inner inner' some =
      let (p, wide, both) = found i j some in
      (p, wide, (λ out. inner (sym both.first ∙ out)), (λ out. inner' (sym both.second ∙ out)))

  of_common : HasCommon m → Intersect g h
  of_common (inl some) = of_entry Interior Interior interior_not interior_not some
  of_common (inr (inl some)) = of_entry Interior Boundary interior_not boundary_not some
  of_common (inr (inr (inl some))) = of_entry Boundary Interior boundary_not interior_not some
  of_common (inr (inr (inr some))) = of_entry Boundary Boundary boundary_not boundary_not some

  common_at : (p : Point) → 0 < p.w → (i j : Part) → part_of g p ≡ i → part_of h p ≡ j → i ≢ Exterior → j ≢ Exterior → HasCommon m
  common_at p wide Interior Interior in_g in_h inner inner' = inl (entry_at p wide Interior Interior in_g in_h)
  common_at p wide Interior Boundary in_g in_h inner inner' = inr (inl (entry_at p wide Interior Boundary in_g in_h))
  common_at p wide Boundary Interior in_g in_h inner inner' = inr (inr (inl (entry_at p wide Boundary Interior in_g in_h)))
  common_at p wide Boundary Boundary in_g in_h inner inner' = inr (inr (inr (entry_at p wide Boundary Boundary in_g in_h)))
  common_at p wide i Exterior in_g in_h inner inner' = absurd (inner' refl)
  common_at p wide Exterior j in_g in_h inner inner' = absurd (inner refl)

  to_common : Intersect g h → HasCommon m
  to_common (p, wide, in_g, in_h) = common_at p wide (part_of g p) (part_of h p) refl refl in_g in_h

  -- the two share a point exactly where one of the four entries isn't empty
  pub common_where_intersect : Intersect g h ↔ HasCommon m
  common_where_intersect = (to_common, of_common)

  none_inside : (i j : Part) → i ≢ Exterior → j ≢ Exterior → AreDisjoint g h → entry m i j ≡ Empty
  none_inside i j inner inner' apart =
      none i j (λ (p, wide, both). apart p wide (λ out. inner (sym both.first ∙ out)) (λ out. inner' (sym both.second ∙ out)))

  -- ---- the one in the other

  in_at : (p : Point) → 0 < p.w → entry m Interior Exterior ≡ Empty → entry m Boundary Exterior ≡ Empty
      → (i : Part) → part_of g p ≡ i → part_of h p ≡ Exterior → i ≡ Exterior
  in_at p wide inner outer Interior in_g out = absurd (entry_at p wide Interior Exterior in_g out inner)
  in_at p wide inner outer Boundary in_g out = absurd (entry_at p wide Boundary Exterior in_g out outer)
  in_at p wide inner outer Exterior in_g out = refl

  pub is_in : entry m Interior Exterior ≡ Empty → entry m Boundary Exterior ≡ Empty → IsIn g h
  is_in inner outer p wide in_g out = in_g (in_at p wide inner outer (part_of g p) refl out)

  none_out : (i : Part) → i ≢ Exterior → IsIn g h → entry m i Exterior ≡ Empty
  none_out i inner within = none i Exterior (λ (p, wide, both). within p wide (λ out. inner (sym both.first ∙ out)) both.second)

  holds_at : (p : Point) → 0 < p.w → entry m Exterior Interior ≡ Empty → entry m Exterior Boundary ≡ Empty
      → (j : Part) → part_of h p ≡ j → part_of g p ≡ Exterior → j ≡ Exterior
  holds_at p wide inner outer Interior in_h out = absurd (entry_at p wide Exterior Interior out in_h inner)
  holds_at p wide inner outer Boundary in_h out = absurd (entry_at p wide Exterior Boundary out in_h outer)
  holds_at p wide inner outer Exterior in_h out = refl

  pub holds_it : entry m Exterior Interior ≡ Empty → entry m Exterior Boundary ≡ Empty → IsIn h g
  holds_it inner outer p wide in_h out = in_h (holds_at p wide inner outer (part_of h p) refl out)

  none_beyond : (j : Part) → j ≢ Exterior → IsIn h g → entry m Exterior j ≡ Empty
  none_beyond j inner within = none Exterior j (λ (p, wide, both). within p wide (λ out. inner (sym both.second ∙ out)) both.first)

  -- what lies in a geometry shares a point with it
  in_common : IsGeometry g → IsIn g h → HasCommon m
  in_common good within = let (p, wide, in_g) = some_point g good in to_common (p, wide, in_g, within p wide in_g)

  holds_common : IsGeometry h → IsIn h g → HasCommon m
  holds_common good within = let (p, wide, in_h) = some_point h good in to_common (p, wide, within p wide in_h, in_h)

  -- ---- the one in the interior of the other

  inside_at : (p : Point) → 0 < p.w → ((i j : Part) → i ≢ Interior → j ≢ Exterior → entry m i j ≡ Empty)
      → (i : Part) → part_of g p ≡ i → part_of h p ≢ Exterior → i ≡ Interior
  inside_at p wide bare Interior in_g in_h = refl
  inside_at p wide bare Boundary in_g in_h = absurd (entry_at p wide Boundary (part_of h p) in_g refl (bare Boundary (part_of h p) not_interior in_h))
  inside_at p wide bare Exterior in_g in_h = absurd (entry_at p wide Exterior (part_of h p) in_g refl (bare Exterior (part_of h p) outside_not in_h))

  inside : ((i j : Part) → i ≢ Interior → j ≢ Exterior → entry m i j ≡ Empty) → LiesInside h g
  inside bare p wide in_h = inside_at p wide bare (part_of g p) refl in_h

  none_around : (i j : Part) → i ≢ Interior → j ≢ Exterior → LiesInside h g → entry m i j ≡ Empty
  none_around i j around inner lies =
      none i j (λ (p, wide, both). around (sym both.first ∙ lies p wide (λ out. inner (sym both.second ∙ out))))

  -- ---- the masks

  anything : (entries : Parts Extent) → FitsRow (row Any Any Any) entries
  anything entries = record { interior = tt; boundary = tt; exterior = tt }

  -- the rows of masks by which the one lies in the other
  beyond_row : IsIn h g → FitsRow (row (Exactly Empty) (Exactly Empty) Any) m.rows.exterior
  beyond_row within = record { interior = none_beyond Interior interior_not within; boundary = none_beyond Boundary boundary_not within; exterior = tt }

  around_row : (i : Part) → i ≢ Interior → LiesInside h g → FitsRow (row (Exactly Empty) (Exactly Empty) Any) (pick i m.rows)
  around_row i around lies =
      record { interior = none_around i Interior around interior_not lies; boundary = none_around i Boundary around boundary_not lies; exterior = tt }

  no_common : entry m Interior Interior ≡ Empty → entry m Interior Boundary ≡ Empty → entry m Boundary Interior ≡ Empty → entry m Boundary Boundary ≡ Empty
      → ¬ (HasCommon m)
  no_common a b c d (inl some) = some a
  no_common a b c d (inr (inl some)) = some b
  no_common a b c d (inr (inr (inl some))) = some c
  no_common a b c d (inr (inr (inr some))) = some d

  -- a relation by its masks
  abbrev By : Relation → Type 0
  By relation = FitsOne (masks relation (dim_of g) (dim_of h)) m

  disjoint_to : By relations.Disjoint → AreDisjoint g h
  disjoint_to (inl f) p wide in_g in_h =
      no_common f.interior.interior f.interior.boundary f.boundary.interior f.boundary.boundary (to_common (p, wide, in_g, in_h))
  disjoint_to (inr f) p wide in_g in_h = absurd f

  disjoint_from : AreDisjoint g h → By relations.Disjoint
  disjoint_from apart = inl (record {
    interior = record {
      interior = none_inside Interior Interior interior_not interior_not apart;
      boundary = none_inside Interior Boundary interior_not boundary_not apart;
      exterior = tt;
    };
    boundary = record {
      interior = none_inside Boundary Interior boundary_not interior_not apart;
      boundary = none_inside Boundary Boundary boundary_not boundary_not apart;
      exterior = tt;
    };
    exterior = anything m.rows.exterior;
  })

  intersects_to : By relations.Intersects → Intersect g h
  intersects_to (inl f) = of_common (inl f.interior.interior)
  intersects_to (inr (inl f)) = of_common (inr (inl f.interior.boundary))
  intersects_to (inr (inr (inl f))) = of_common (inr (inr (inl f.boundary.interior)))
  intersects_to (inr (inr (inr (inl f)))) = of_common (inr (inr (inr f.boundary.boundary)))
  intersects_to (inr (inr (inr (inr f)))) = absurd f

  intersects_by : HasCommon m → By relations.Intersects
  intersects_by (inl some) = inl (record { interior = record { interior = some; boundary = tt; exterior = tt }; boundary = anything _; exterior = anything _ })
  intersects_by (inr (inl some)) = inr (inl (record { interior = record { interior = tt; boundary = some; exterior = tt }; boundary = anything _; exterior = anything _ }))
  intersects_by (inr (inr (inl some))) =
      inr (inr (inl (record { interior = anything _; boundary = record { interior = some; boundary = tt; exterior = tt }; exterior = anything _ })))
  intersects_by (inr (inr (inr some))) =
      inr (inr (inr (inl (record { interior = anything _; boundary = record { interior = tt; boundary = some; exterior = tt }; exterior = anything _ }))))

  within_to : By relations.Within → IsIn g h × InteriorsMeet g h
  within_to (inl f) = (is_in f.interior.exterior f.boundary.exterior, found Interior Interior f.interior.interior)
  within_to (inr f) = absurd f

  within_from : IsIn g h × InteriorsMeet g h → By relations.Within
  within_from (within, meet) = inl (record {
    interior = record { interior = held Interior Interior meet; boundary = tt; exterior = none_out Interior interior_not within };
    boundary = record { interior = tt; boundary = tt; exterior = none_out Boundary boundary_not within };
    exterior = anything _;
  })

  contains_to : By relations.Contains → IsIn h g × InteriorsMeet g h
  contains_to (inl f) = (holds_it f.exterior.interior f.exterior.boundary, found Interior Interior f.interior.interior)
  contains_to (inr f) = absurd f

  contains_from : IsIn h g × InteriorsMeet g h → By relations.Contains
  contains_from (within, meet) = inl (record {
    interior = record { interior = held Interior Interior meet; boundary = tt; exterior = tt };
    boundary = anything _;
    exterior = beyond_row within;
  })

  equals_to : By relations.Equals → IsIn g h × IsIn h g × InteriorsMeet g h
  equals_to (inl f) =
      (is_in f.interior.exterior f.boundary.exterior, holds_it f.exterior.interior f.exterior.boundary, found Interior Interior f.interior.interior)
  equals_to (inr f) = absurd f

  equals_from : IsIn g h × IsIn h g × InteriorsMeet g h → By relations.Equals
  equals_from (within, holds, meet) = inl (record {
    interior = record { interior = held Interior Interior meet; boundary = tt; exterior = none_out Interior interior_not within };
    boundary = record { interior = tt; boundary = tt; exterior = none_out Boundary boundary_not within };
    exterior = beyond_row holds;
  })

  covers_to : By relations.Covers → IsIn h g
  covers_to (inl f) = holds_it f.exterior.interior f.exterior.boundary
  covers_to (inr (inl f)) = holds_it f.exterior.interior f.exterior.boundary
  covers_to (inr (inr (inl f))) = holds_it f.exterior.interior f.exterior.boundary
  covers_to (inr (inr (inr (inl f)))) = holds_it f.exterior.interior f.exterior.boundary
  covers_to (inr (inr (inr (inr f)))) = absurd f

  covers_by : IsIn h g → HasCommon m → By relations.Covers
  covers_by holds (inl some) =
      inl (record { interior = record { interior = some; boundary = tt; exterior = tt }; boundary = anything _; exterior = beyond_row holds })
  covers_by holds (inr (inl some)) =
      inr (inl (record { interior = record { interior = tt; boundary = some; exterior = tt }; boundary = anything _; exterior = beyond_row holds }))
  covers_by holds (inr (inr (inl some))) =
      inr (inr (inl (record { interior = anything _; boundary = record { interior = some; boundary = tt; exterior = tt }; exterior = beyond_row holds })))
  covers_by holds (inr (inr (inr some))) =
      inr (inr (inr (inl (record { interior = anything _; boundary = record { interior = tt; boundary = some; exterior = tt }; exterior = beyond_row holds }))))

  covered_to : By relations.CoveredBy → IsIn g h
  covered_to (inl f) = is_in f.interior.exterior f.boundary.exterior
  covered_to (inr (inl f)) = is_in f.interior.exterior f.boundary.exterior
  covered_to (inr (inr (inl f))) = is_in f.interior.exterior f.boundary.exterior
  covered_to (inr (inr (inr (inl f)))) = is_in f.interior.exterior f.boundary.exterior
  covered_to (inr (inr (inr (inr f)))) = absurd f

  covered_by : IsIn g h → HasCommon m → By relations.CoveredBy
  covered_by within common =
      let inner : entry m Interior Exterior ≡ Empty = none_out Interior interior_not within in
      let outer : entry m Boundary Exterior ≡ Empty = none_out Boundary boundary_not within in
      elim common as (λ _. By relations.CoveredBy) [
        | inl some ↦ inl (record {
          interior = record { interior = some; boundary = tt; exterior = inner };
          boundary = record { interior = tt; boundary = tt; exterior = outer };
          exterior = anything _;
        })
        | inr others ↦ elim others as (λ _. By relations.CoveredBy) [
          | inl some ↦ inr (inl (record {
            interior = record { interior = tt; boundary = some; exterior = inner };
            boundary = record { interior = tt; boundary = tt; exterior = outer };
            exterior = anything _;
          }))
          | inr others ↦ elim others as (λ _. By relations.CoveredBy) [
            | inl some ↦ inr (inr (inl (record {
              interior = record { interior = tt; boundary = tt; exterior = inner };
              boundary = record { interior = some; boundary = tt; exterior = outer };
              exterior = anything _;
            })))
            | inr some ↦ inr (inr (inr (inl (record {
              interior = record { interior = tt; boundary = tt; exterior = inner };
              boundary = record { interior = tt; boundary = some; exterior = outer };
              exterior = anything _;
            }))))
          ]
        ]
      ]

  properly_to : By relations.ContainsProperly → LiesInside h g × InteriorsMeet g h
  properly_to (inl f) = (inside none_there, found Interior Interior f.interior.interior)
    where
      none_there : (i j : Part) → i ≢ Interior → j ≢ Exterior → entry m i j ≡ Empty
      none_there Interior j around inner = absurd (around refl)
      none_there i Exterior around inner = absurd (inner refl)
      none_there Boundary Interior around inner = f.boundary.interior
      none_there Boundary Boundary around inner = f.boundary.boundary
      none_there Exterior Interior around inner = f.exterior.interior
      none_there Exterior Boundary around inner = f.exterior.boundary
  properly_to (inr f) = absurd f

  properly_from : LiesInside h g × InteriorsMeet g h → By relations.ContainsProperly
  properly_from (lies, meet) = inl (record {
    interior = record { interior = held Interior Interior meet; boundary = tt; exterior = tt };
    boundary = around_row Boundary not_interior lies;
    exterior = around_row Exterior outside_not lies;
  })

  -- the masks of touches, unless both geometries are points
  abbrev TouchesBy : Type 0
  TouchesBy = FitsOne (masks relations.Touches 1 1) m

  touches_to : TouchesBy → Intersect g h × ¬ (InteriorsMeet g h)
  touches_to (inl f) = (of_common (inr (inl f.interior.boundary)), λ meet. held Interior Interior meet f.interior.interior)
  touches_to (inr (inl f)) = (of_common (inr (inr (inl f.boundary.interior))), λ meet. held Interior Interior meet f.interior.interior)
  touches_to (inr (inr (inl f))) = (of_common (inr (inr (inr f.boundary.boundary))), λ meet. held Interior Interior meet f.interior.interior)
  touches_to (inr (inr (inr f))) = absurd f

  touches_by : ¬ (InteriorsMeet g h) → HasCommon m → TouchesBy
  touches_by apart (inl some) = absurd (apart (found Interior Interior some))
  touches_by apart (inr (inl some)) =
      inl (record { interior = record { interior = none Interior Interior apart; boundary = some; exterior = tt }; boundary = anything _; exterior = anything _ })
  touches_by apart (inr (inr (inl some))) = inr (inl (record {
    interior = record { interior = none Interior Interior apart; boundary = tt; exterior = tt };
    boundary = record { interior = some; boundary = tt; exterior = tt };
    exterior = anything _;
  }))
  touches_by apart (inr (inr (inr some))) = inr (inr (inl (record {
    interior = record { interior = none Interior Interior apart; boundary = tt; exterior = tt };
    boundary = record { interior = tt; boundary = some; exterior = tt };
    exterior = anything _;
  })))

  touches : TouchesBy ↔ (Intersect g h × ¬ (InteriorsMeet g h))
  touches = (touches_to, λ (common, apart). touches_by apart (to_common common))

-- the points of two geometries that are points are their interiors
points_interior : (vs : List Vertex) (p : Point) → part_of (Points vs) p ≢ Exterior → part_of (Points vs) p ≡ Interior
points_interior vs p here = plain (list_any (λ v. is_at v p) vs) here
  where
    plain : (t : Bool) → (if t then Interior else Exterior) ≢ Exterior → (if t then Interior else Exterior) ≡ Interior
    plain true h = refl
    plain false h = absurd (h refl)

points_meet : (vs ws : List Vertex) → Intersect (Points vs) (Points ws) → InteriorsMeet (Points vs) (Points ws)
points_meet vs ws (p, wide, in_g, in_h) = (p, wide, record { first = points_interior vs p in_g; second = points_interior ws p in_h })

touching : (g h : Figure) (m : Matrix) → IsPlaneMatrix g h m
    → FitsOne (masks relations.Touches (dim_of g) (dim_of h)) m ↔ (Intersect g h × ¬ (InteriorsMeet g h))
touching (Points vs) (Points ws) m is = ((λ f. absurd f), (λ (common, apart). absurd (apart (points_meet vs ws common))))
touching (Points vs) (Lines paths) m is = touches (Points vs) (Lines paths) m is
touching (Points vs) (Areas rings) m is = touches (Points vs) (Areas rings) m is
touching (Lines paths) h m is = touches (Lines paths) h m is
touching (Areas rings) h m is = touches (Areas rings) h m is

-- what the masks say of each matrix of two geometries is what the relation is
by_matrix : (relation : Relation) (g h : Figure) (m : Matrix) (Sets : Type 0) → IsPlaneMatrix g h m
    → ((n : Matrix) → IsPlaneMatrix g h n → FitsOne (masks relation (dim_of g) (dim_of h)) n ↔ Sets) → HoldsOf relation g h ↔ Sets
by_matrix relation g h m Sets is same =
    ((λ holds. (same holds.matrix holds.is).0 holds.fits), (λ sets. record { matrix = m; is = is; fits = (same m is).1 sets }))

itself : (A : Type 0) → A ↔ A
itself A = ((λ a. a), (λ a. a))

pub stand_as_sets : (relation : Relation) (g h : Figure) (m : Matrix) → IsGeometry g → IsGeometry h → IsPlaneMatrix g h m
    → HoldsOf relation g h ↔ HoldsOfSets relation g h
stand_as_sets (relations.Mask mask) g h m good_g good_h is = itself _
stand_as_sets relations.Crosses g h m good_g good_h is = itself _
stand_as_sets relations.Overlaps g h m good_g good_h is = itself _
stand_as_sets relations.Disjoint g h m good_g good_h is = by_matrix _ g h m _ is (λ n at. (disjoint_to g h n at, disjoint_from g h n at))
stand_as_sets relations.Intersects g h m good_g good_h is =
    by_matrix _ g h m _ is (λ n at. (intersects_to g h n at, (λ common. intersects_by g h n at (to_common g h n at common))))
stand_as_sets relations.Touches g h m good_g good_h is = by_matrix _ g h m _ is (touching g h)
stand_as_sets relations.Within g h m good_g good_h is = by_matrix _ g h m _ is (λ n at. (within_to g h n at, within_from g h n at))
stand_as_sets relations.Contains g h m good_g good_h is = by_matrix _ g h m _ is (λ n at. (contains_to g h n at, contains_from g h n at))
stand_as_sets relations.Equals g h m good_g good_h is = by_matrix _ g h m _ is (λ n at. (equals_to g h n at, equals_from g h n at))
stand_as_sets relations.Covers g h m good_g good_h is =
    by_matrix _ g h m _ is (λ n at. (covers_to g h n at, (λ holds. covers_by g h n at holds (holds_common g h n at good_h holds))))
stand_as_sets relations.CoveredBy g h m good_g good_h is =
    by_matrix _ g h m _ is (λ n at. (covered_to g h n at, (λ within. covered_by g h n at within (in_common g h n at good_g within))))
stand_as_sets relations.ContainsProperly g h m good_g good_h is =
    by_matrix _ g h m _ is (λ n at. (properly_to g h n at, properly_from g h n at))
