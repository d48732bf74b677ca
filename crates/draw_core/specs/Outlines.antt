-- Boxes as SVG paths.
use Rattle.std.specs.Prelude.{◌==◌, ℕ, ℤ, ◌-ℤ◌, Bool, List, [], ◌++◌, codes, if◌then◌else◌}
use Rattle.std.specs.Fmt.{signed_decimal}
use Rattle.geom_core.specs.declared.shape.Shape.{Shape}
use Rattle.geom_core.specs.Shapes.{x1, y1, x2, y2, dim_of}
use Rattle.draw_core.specs.Drawings.{Drawing, drawing_by}
use Rattle.draw_core.specs.Views.{View}

-- a command of a path, and its number
abbrev pub numbered : List ℕ → ℤ → List ℕ
numbered command number = command ++ signed_decimal number

-- the start of a shape's path (SVG 1.1, section 8.3): its upper left corner
abbrev pub corner : View → Shape → List ℕ
corner view s =
    numbered (codes "M") (x1 s -ℤ view.left) ++ numbered (codes " ") (view.top -ℤ y2 s)

-- the way back to the start, if the shape is a rectangle
abbrev pub way_back : Shape → List ℕ
way_back s = if dim_of s == 2 then numbered (codes "h-") (x2 s -ℤ x1 s) ++ codes "z" else []

-- the path of a shape: from its upper left corner across, down and back
abbrev pub outline : View → Shape → List ℕ
outline view s =
    corner view s ++ (numbered (codes "h") (x2 s -ℤ x1 s)
    ++ (numbered (codes "v") (y2 s -ℤ y1 s) ++ way_back s))

-- the start of a path element: points and matches have classes
abbrev pub start_of : ℕ → Bool → List ℕ
start_of dim is_match =
    if dim == 0
    then (if is_match then codes "<path class=\"point match\" d=\""
    else codes "<path class=\"point\" d=\"")
    else (if is_match then codes "<path class=\"match\" d=\"" else codes "<path d=\"")

-- a box is drawn as its outline
abbrev pub box_drawing : Drawing Shape
box_drawing = drawing_by (λ s. s) (λ s. start_of (dim_of s)) outline
