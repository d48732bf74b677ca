-- The class of a geometry, by the dimensions of its interior and its boundary.
use Rattle.std.proofs.Common.{◌≡◌, refl}
use Rattle.std.specs.Prelude.{List}
use Rattle.relation_core.specs.declared.extent.Extent.{Extent}
use Rattle.relation_core.specs.declared.extent.Extent.TheVariants.{Empty, Point as Dot, Line, Area}
use Rattle.plane_core.specs.declared.vertex.Vertex.{Vertex}
use Rattle.plane_core.specs.declared.part.Part.TheVariants.{Interior, Boundary}
use Rattle.plane_core.specs.Figures.{Figure, IsGeometry, dim_of}
use Rattle.plane_core.specs.Figures.Figure.{Points as Dots, Lines as Polylines, Areas as Regions}
use Rattle.plane_core.specs.PlaneMatrices.{SharePoint, IsEntry}
use Rattle.plane_core.proofs.OnePlaneMatrix.{triangle_point, segment_point}
use Rattle.any_relation_core.specs.declared.class.Class.{Class}
use Rattle.any_relation_core.specs.declared.class.Class.TheVariants.{Points, OpenLines, ClosedLines, Areas, HollowAreas}
use Rattle.any_relation_core.specs.Classes.{class_dim, interior_of, boundary_of}
use Rattle.any_relation_core.proofs.PartLemmas.{IsInPart, first_point, points_no_segment, points_no_boundary, lines_segment, lines_no_segment, lines_no_triangle, areas_segment, areas_no_triangle, areas_triangle}

pub record IsOfClass (g : Figure) (c : Class) : Type 0 where
  pub dim : class_dim c ≡ dim_of g
  pub interior : IsEntry (IsInPart g Interior) (interior_of c)
  pub boundary : IsEntry (IsInPart g Boundary) (boundary_of c)

pub points_class : (vs : List Vertex) → IsGeometry (Dots vs) → IsOfClass (Dots vs) Points
points_class vs good = record { dim = refl; interior = (first_point vs good, points_no_segment vs); boundary = points_no_boundary vs }

pub open_class : (paths : List (List Vertex)) → IsGeometry (Polylines paths) → SharePoint (IsInPart (Polylines paths) Boundary) → IsOfClass (Polylines paths) OpenLines
open_class paths good has = record { dim = refl; interior = (lines_segment paths good, lines_no_triangle paths good); boundary = (has, lines_no_segment paths good) }

pub closed_class : (paths : List (List Vertex)) → IsGeometry (Polylines paths) → ¬ (SharePoint (IsInPart (Polylines paths) Boundary)) → IsOfClass (Polylines paths) ClosedLines
closed_class paths good none = record { dim = refl; interior = (lines_segment paths good, lines_no_triangle paths good); boundary = none }

pub areas_class : (rings : List (List Vertex)) → IsGeometry (Regions rings) → SharePoint (IsInPart (Regions rings) Interior) → IsOfClass (Regions rings) Areas
areas_class rings good has = record { dim = refl; interior = areas_triangle rings good has; boundary = (areas_segment rings good, areas_no_triangle rings good) }

pub hollow_class : (rings : List (List Vertex)) → IsGeometry (Regions rings) → ¬ (SharePoint (IsInPart (Regions rings) Interior)) → IsOfClass (Regions rings) HollowAreas
hollow_class rings good none = record { dim = refl; interior = none; boundary = (areas_segment rings good, areas_no_triangle rings good) }

pub class_of : (g : Figure) (x y : Extent) → IsGeometry g → IsEntry (IsInPart g Interior) x → IsEntry (IsInPart g Boundary) y → (c : Class) × IsOfClass g c
class_of (Dots vs) x y good inner outer = (Points, points_class vs good)
class_of (Polylines paths) x Empty good inner outer = (ClosedLines, closed_class paths good outer)
class_of (Polylines paths) x Dot good inner outer = (OpenLines, open_class paths good outer.0)
class_of (Polylines paths) x Line good inner outer = (OpenLines, open_class paths good (segment_point _ outer.0))
class_of (Polylines paths) x Area good inner outer = (OpenLines, open_class paths good (triangle_point _ outer))
class_of (Regions rings) Empty y good inner outer = (HollowAreas, hollow_class rings good inner)
class_of (Regions rings) Dot y good inner outer = (Areas, areas_class rings good inner.0)
class_of (Regions rings) Line y good inner outer = (Areas, areas_class rings good (segment_point _ inner.0))
class_of (Regions rings) Area y good inner outer = (Areas, areas_class rings good (triangle_point _ inner))
