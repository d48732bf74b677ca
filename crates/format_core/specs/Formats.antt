-- How the text of a geometry reads.
use Rattle.std.specs.Prelude.{◌≡◌, ℕ, Bool, List, Result, Ok, Err, All, is_ok}
use Rattle.geom_core.specs.Cells.{IsIn}
use Rattle.geom_core.specs.declared.shape.Shape.{Shape}
use Rattle.plane_core.specs.Figures.{Figure}
use Rattle.plane_core.specs.declared.rings.Rings.{Rings}
use Rattle.plane_core.specs.declared.rings.Rings.TheVariants.{Proper}
use Rattle.plane_core.specs.Vertices.{vertices_of, HoldsVertex}
use Rattle.any_geometry_core.specs.declared.geometry.AnyGeometry.{AnyGeometry}
use Rattle.any_geometry_core.specs.AnyGeometries.{figure_of, rings_of, box_of}
use Rattle.number_core.specs.declared.limits.Limits.TheVariants.{Any, Boxes}
use Rattle.number_core.specs.declared.scale.Scale.{Scale}
use Rattle.wkt_core.specs.Readings.{Reads}
use Rattle.wkt_any_core.specs.declared.fault.GeometryFault.{GeometryFault}
use Rattle.geometry_text_core.specs.Texts as any
use Rattle.format_core.specs.Layouts.{Reading, TextReading, plain}
use Rattle.format_core.specs.declared.text_fault.TextFault.TheVariants as text

-- whether the text spells a geometry of any kind, with proper rings
abbrev pub SpellsAny : Scale → List ℕ → Bool → Type 0
SpellsAny scale wkt spells =
    (figure : Result Figure GeometryFault) × any.Reads scale Proper wkt figure × (spells ≡ is_ok figure)

-- a box, with coordinates at a scale
abbrev pub BoxText : Scale → TextReading Shape
BoxText scale wkt (Ok shape) = Reads scale wkt (Ok shape)
BoxText scale wkt (Err (text.Wkt fault spells)) =
    Reads scale wkt (Err fault) × SpellsAny scale wkt spells
BoxText scale wkt (Err (text.Geometry fault)) = ⊥

-- boxes in files with the columns `id` and `wkt`, and the limits of boxes
abbrev pub ReadsBox : Scale → Reading Shape
ReadsBox scale = plain Boxes (BoxText scale)

-- the text spells the figure of this geometry, which has this rule of rings and the least box that
-- holds its vertices
pub record IsSpelled (scale : Scale) (rings : Rings) (wkt : List ℕ) (g : AnyGeometry) : Type 0 where
  pub figure : any.Reads scale rings wkt (Ok (figure_of g))
  pub rule : rings_of g ≡ rings
  pub least : (s : Shape) → All (HoldsVertex s) (vertices_of (figure_of g)) → IsIn (box_of g) s

-- a geometry of any kind, with coordinates at a scale and rings by a rule
abbrev pub AnyText : Scale → Rings → TextReading AnyGeometry
AnyText scale rings wkt (Ok g) = IsSpelled scale rings wkt g
AnyText scale rings wkt (Err (text.Wkt fault spells)) = ⊥
AnyText scale rings wkt (Err (text.Geometry fault)) = any.Reads scale rings wkt (Err fault)

-- such geometries in files with the columns `id` and `wkt`, and the limits of any geometry
abbrev pub ReadsAny : Scale → Rings → Reading AnyGeometry
ReadsAny scale rings = plain Any (AnyText scale rings)
