-- A geometry as it is stored: the concatenated vertices of all its paths, and the end of each path.
use Rattle.std.specs.Prelude.{◌≡◌, ℕ, ◌≤◌, List, [], ◌∷◌, length}
use Rattle.std.specs.List.{slice_range}
use Rattle.plane_core.specs.declared.vertex.Vertex.{Vertex}
use Rattle.plane_core.specs.declared.outline.Kind.{Kind}
use Rattle.plane_core.specs.declared.outline.Kind.TheVariants.{Points as Dots}
use Rattle.plane_core.specs.declared.outline.Kind.TheVariants.{Lines as Polylines, Areas as Rings}
use Rattle.plane_core.specs.Figures.{Figure, IsGeometry}
use Rattle.plane_core.specs.Figures.Figure.{Points, Lines, Areas}

-- the vertices from one end to the next
abbrev pub paths_of : ℕ → List ℕ → List Vertex → List (List Vertex)
paths_of start [] vs = []
paths_of start (end ∷ ends) vs = slice_range vs start end ∷ paths_of end ends vs

abbrev pub stored_figure : Kind → List ℕ → List Vertex → Figure
stored_figure Dots ends vs = Points vs
stored_figure Polylines ends vs = Lines (paths_of 0 ends vs)
stored_figure Rings ends vs = Areas (paths_of 0 ends vs)

-- no path ends before it starts, and the last one ends with the last vertex
abbrev pub AreCuts : ℕ → List ℕ → ℕ → Type 0
AreCuts start [] n = start ≡ n
AreCuts start (end ∷ ends) n = (start ≤ end) × AreCuts end ends n

-- the ends cut this many vertices into paths; single points need no ends
abbrev pub AreCutsFor : Kind → List ℕ → ℕ → Type 0
AreCutsFor Dots ends n = Unit {0}
AreCutsFor Polylines ends n = AreCuts 0 ends n
AreCutsFor Rings ends n = AreCuts 0 ends n

pub record IsStored (kind : Kind) (ends : List ℕ) (vs : List Vertex) : Type 0 where
  pub cuts : AreCutsFor kind ends (length vs)
  pub geometry : IsGeometry (stored_figure kind ends vs)
