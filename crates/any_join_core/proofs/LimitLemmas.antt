-- No part of a geometry has a greater dimension than its limit, so no intersection of two parts has.
use Rattle.std.proofs.Common.{◌≤◌, ℕ, arith}
use Rattle.relation_core.specs.declared.extent.Extent.{Extent}
use Rattle.relation_core.specs.declared.extent.Extent.TheVariants.{Empty, Point as Dot, Line, Area}
use Rattle.relation_core.specs.declared.matrix.Matrix.{Matrix}
use Rattle.decision_core.specs.Orders.{IsBelow}
use Rattle.noding_core.specs.Marks.{rank}
use Rattle.plane_core.specs.declared.part.Part.{Part}
use Rattle.plane_core.specs.declared.part.Part.TheVariants.{Interior, Boundary, Exterior}
use Rattle.plane_core.specs.Points.{Point}
use Rattle.plane_core.specs.Figures.{Figure, IsGeometry, dim_of}
use Rattle.plane_core.specs.Figures.Figure.{Points as Dots, Lines as Polylines, Areas as Regions}
use Rattle.plane_core.specs.PlaneMatrices.{IsInBoth, SharePoint, ShareSegment, ShareTriangle}
use Rattle.plane_core.specs.PlaneMatrices.{IsEntry, IsPlaneMatrix, entry}
use Rattle.plane_core.proofs.OnePlaneMatrix.{triangle_segment, segment_point}
use Rattle.any_relation_core.proofs.ShareLemmas.{share_point, share_segment, share_triangle}
use Rattle.any_relation_core.proofs.PartLemmas.{IsInPart, points_no_segment, points_no_boundary, lines_no_segment, lines_no_triangle, areas_no_triangle}
use Rattle.any_join_core.specs.Limits.{interior_limit, boundary_limit, lesser, greatest_of}

-- no more than points, pieces of lines or areas are in a set
abbrev IsUpTo : (Point → Type 0) → Extent → Type 0
IsUpTo P Empty = ¬ (SharePoint P)
IsUpTo P Dot = ¬ (ShareSegment P)
IsUpTo P Line = ¬ (ShareTriangle P)
IsUpTo P Area = Unit {0}

-- the limit of a part of a geometry
abbrev limit_of : ℕ → Part → Extent
limit_of d Interior = interior_limit d
limit_of d Boundary = boundary_limit d
limit_of d Exterior = Area

part_limit : (g : Figure) (i : Part) → IsGeometry g → IsUpTo (IsInPart g i) (limit_of (dim_of g) i)
part_limit (Dots vs) Interior good = points_no_segment vs
part_limit (Dots vs) Boundary good = points_no_boundary vs
part_limit (Dots vs) Exterior good = tt
part_limit (Polylines paths) Interior good = lines_no_triangle paths good
part_limit (Polylines paths) Boundary good = lines_no_segment paths good
part_limit (Polylines paths) Exterior good = tt
part_limit (Regions rings) Interior good = tt
part_limit (Regions rings) Boundary good = areas_no_triangle rings good
part_limit (Regions rings) Exterior good = tt

-- an entry is at most a limit of its set
entry_limit : (P : Point → Type 0) (e d : Extent) → IsEntry P e → IsUpTo P d → rank e ≤ rank d
entry_limit P Empty d h k = omega arith
entry_limit P Dot Empty h k = absurd (k h.0)
entry_limit P Dot Dot h k = omega arith
entry_limit P Dot Line h k = omega arith
entry_limit P Dot Area h k = omega arith
entry_limit P Line Empty h k = absurd (k (segment_point P h.0))
entry_limit P Line Dot h k = absurd (k h.0)
entry_limit P Line Line h k = omega arith
entry_limit P Line Area h k = omega arith
entry_limit P Area Empty h k = absurd (k (segment_point P (triangle_segment P h)))
entry_limit P Area Dot h k = absurd (k (triangle_segment P h))
entry_limit P Area Line h k = absurd (k h)
entry_limit P Area Area h k = omega arith

-- and so is that of a smaller set
less_limit : (P Q : Point → Type 0) (d : Extent) → ((p : Point) → P p → Q p) → IsUpTo Q d → IsUpTo P d
less_limit P Q Empty f h = λ k. h (share_point P Q (λ p wide. f p) k)
less_limit P Q Dot f h = λ k. h (share_segment P Q (λ p wide. f p) k)
less_limit P Q Line f h = λ k. h (share_triangle P Q (λ p wide. f p) k)
less_limit P Q Area f h = tt

both_limits : (r : ℕ) (c d : Extent) → r ≤ rank c → r ≤ rank d → r ≤ rank (lesser c d)
both_limits r Empty d h k = h
both_limits r Dot Empty h k = k
both_limits r Dot Dot h k = h
both_limits r Dot Line h k = h
both_limits r Dot Area h k = h
both_limits r Line Empty h k = k
both_limits r Line Dot h k = k
both_limits r Line Line h k = h
both_limits r Line Area h k = h
both_limits r Area d h k = k

module _ (g h : Figure) (m : Matrix) (good_g : IsGeometry g) (good_h : IsGeometry h) (is : IsPlaneMatrix g h m) where
  first_limit : (i j : Part) → rank (entry m i j) ≤ rank (limit_of (dim_of g) i)
  first_limit i j = entry_limit (IsInBoth g h i j) (entry m i j) (limit_of (dim_of g) i) (is.is i j)
      (less_limit (IsInBoth g h i j) (IsInPart g i) (limit_of (dim_of g) i) (λ p both. both.first) (part_limit g i good_g))

  second_limit : (i j : Part) → rank (entry m i j) ≤ rank (limit_of (dim_of h) j)
  second_limit i j = entry_limit (IsInBoth g h i j) (entry m i j) (limit_of (dim_of h) j) (is.is i j)
      (less_limit (IsInBoth g h i j) (IsInPart h j) (limit_of (dim_of h) j) (λ p both. both.second) (part_limit h j good_h))

  entry_below : (i j : Part) → rank (entry m i j) ≤ rank (lesser (limit_of (dim_of g) i) (limit_of (dim_of h) j))
  entry_below i j = both_limits (rank (entry m i j)) (limit_of (dim_of g) i) (limit_of (dim_of h) j) (first_limit i j) (second_limit i j)

  -- the matrix of two geometries is below the greatest of their dimensions
  pub below_greatest : IsBelow m (greatest_of (dim_of g) (dim_of h))
  below_greatest = record {
    interior = record { interior = entry_below Interior Interior; boundary = entry_below Interior Boundary; exterior = first_limit Interior Exterior };
    boundary = record { interior = entry_below Boundary Interior; boundary = entry_below Boundary Boundary; exterior = first_limit Boundary Exterior };
    exterior = record { interior = entry_below Exterior Interior; boundary = entry_below Exterior Boundary; exterior = first_limit Exterior Exterior };
  }
