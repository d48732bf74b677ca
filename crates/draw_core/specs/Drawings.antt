-- How the geometries of a layer are drawn.
use Rattle.std.specs.Prelude.{ℕ, Bool, List}
use Rattle.geom_core.specs.declared.shape.Shape.{Shape}
use Rattle.draw_core.specs.Views.{View}

-- of a geometry: its box, the start of its path element, by whether it is in a match, and the path
-- data that draw it in a view (SVG 1.1, section 8.3)
pub record Drawing (G : Type 0) : Type 0 where
  pub box_of : G → Shape
  pub start_of : G → Bool → List ℕ
  pub path_of : View → G → List ℕ

abbrev pub drawing_by : {G : Type 0} → (G → Shape) → (G → Bool → List ℕ) → (View → G → List ℕ)
    → Drawing G
drawing_by box_of start_of path_of =
    record { box_of = box_of; start_of = start_of; path_of = path_of }
