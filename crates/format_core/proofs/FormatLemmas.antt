-- A geometry made of the figure that a text spells.
use Rattle.std.proofs.Common.{◌≡◌, ℕ, List, Ok, All, sym, subst}
use Rattle.geom_core.specs.Cells.{IsIn}
use Rattle.geom_core.specs.declared.shape.Shape.{Shape}
use Rattle.plane_core.specs.declared.rings.Rings.{Rings}
use Rattle.plane_core.specs.Figures.{Figure}
use Rattle.plane_core.specs.Vertices.{vertices_of, HoldsVertex}
use Rattle.any_geometry_core.specs.declared.geometry.AnyGeometry.{AnyGeometry}
use Rattle.any_geometry_core.specs.AnyGeometries.{figure_of, rings_of, box_of}
use Rattle.number_core.specs.declared.scale.Scale.{Scale}
use Rattle.geometry_text_core.specs.Texts.{Reads}
use Rattle.format_core.specs.Formats.{IsSpelled}

pub spelled : (scale : Scale) (rings : Rings) (wkt : List ℕ) (f : Figure) (g : AnyGeometry)
    → Reads scale rings wkt (Ok f) → figure_of g ≡ f → rings_of g ≡ rings
    → ((s : Shape) → All (HoldsVertex s) (vertices_of f) → IsIn (box_of g) s)
    → IsSpelled scale rings wkt g
spelled scale rings wkt f g reads figure rule least = record {
  figure = subst (λ (x : Figure). Reads scale rings wkt (Ok x)) (sym figure) reads;
  rule = rule;
  least = λ s holds. least s (subst (λ (x : Figure). All (HoldsVertex s) (vertices_of x)) figure holds);
}
