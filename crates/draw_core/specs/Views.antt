-- The part of the plane that a picture shows.
use Rattle.std.specs.Prelude.{ℕ, ◌+◌, ◌*◌, ◌/◌, ◌<◌, ◌≤◌, max, min, ℤ, pos, neg_ℤ, ◌+ℤ◌, ◌-ℤ◌, ◌≤ℤ◌}
use Rattle.std.specs.Prelude.{unsigned_abs}
use Rattle.std.specs.Prelude.{List, [], ◌∷◌, Option, None, Some}
use Rattle.std.specs.Int.{div_ceil}
use Rattle.geom_core.specs.declared.shape.Shape.{Shape}
use Rattle.geom_core.specs.Limits.{greatest_coordinate}
use Rattle.geom_core.specs.Shapes.{x1, y1, x2, y2, cover_of}
use Rattle.layer_core.specs.Layers.{Feature, Contents}

-- the first coordinate of the left side, the second one of the upper side, and the two lengths
pub record View : Type 0 where
  pub left : ℤ
  pub top : ℤ
  pub width : ℕ
  pub height : ℕ

-- the greatest distance of two coordinates
abbrev pub greatest_distance : ℕ
greatest_distance = 2 * greatest_coordinate

-- a twentieth of the longer side, plus one unit
abbrev pub margin_of : ℕ → ℕ → ℕ
margin_of width height = max width height / 20 + 1

abbrev pub greatest_margin : ℕ
greatest_margin = margin_of greatest_distance greatest_distance

-- at most twice as far from the origin as a coordinate
abbrev pub IsNear : ℤ → Type 0
IsNear c = (neg_ℤ (pos greatest_distance) ≤ℤ c) × (c ≤ℤ pos greatest_distance)

-- both lengths of a frame are positive, and at most the plane's with a margin on each side
pub record HasSize (width height : ℕ) : Type 0 where
  pub wide : 0 < width
  pub width_few : width ≤ greatest_distance + 2 * greatest_margin
  pub height_few : height ≤ greatest_distance + 2 * greatest_margin

-- the height at which a view is drawn in a picture 1,000 wide: in proportion, but at most 2,000
abbrev pub drawn_height : View → ℕ
drawn_height view = min (div_ceil (1000 * view.height) view.width) 2000

-- the smallest shape that contains the cover, if there is one, and the shape
abbrev pub widened : Option Shape → Shape → Shape
widened None s = s
widened (Some cover) s = cover_of cover s

-- the smallest shape that contains the cover, if there is one, and the box of each feature
abbrev pub cover_with : {G : Type 0} → (G → Shape) → Option Shape → List (Feature G) → Option Shape
cover_with box_of cover [] = cover
cover_with box_of cover (f ∷ fs) = cover_with box_of (Some (widened cover (box_of f.shape))) fs

-- the view around these corners, with a margin on each side
abbrev pub view_around : ℤ → ℤ → ℤ → ℤ → View
view_around a b c d =
    let width = unsigned_abs (c -ℤ a) in
    let height = unsigned_abs (d -ℤ b) in
    let margin = margin_of width height in
    record {
      left = a -ℤ pos margin;
      top = d +ℤ pos margin;
      width = width + 2 * margin;
      height = height + 2 * margin;
    }

-- the view around the cover, or around the origin if there is none
abbrev pub view_about : Option Shape → View
view_about None = view_around (pos 0) (pos 0) (pos 0) (pos 0)
view_about (Some s) = view_around (x1 s) (y1 s) (x2 s) (y2 s)

-- the view of two layers: the cover of their boxes with its margin
abbrev pub view_of : {G : Type 0} → (G → Shape) → Contents G → Contents G → View
view_of box_of left right =
    view_about (cover_with box_of (cover_with box_of None left.features) right.features)
