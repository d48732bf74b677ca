-- The picture of two layers.
use Rattle.std.specs.Prelude.{ℕ, ◌+◌, Bool, List, ◌++◌, length, decimal, codes}
use Rattle.std.specs.List.{flat_map}
use Rattle.layer_core.specs.Layers.{Feature, Contents}
use Rattle.draw_core.specs.Drawings.{Drawing}
use Rattle.draw_core.specs.Labels.{label}
use Rattle.draw_core.specs.Marks.{has_left, has_right}
use Rattle.draw_core.specs.Views.{View, view_of, drawn_height}

-- the title of a feature: its id
abbrev pub title : List ℕ → List ℕ
title id = codes "<title>" ++ (label id ++ codes "</title>")

-- the element of a feature: the path of its geometry, and its id
abbrev pub element : {G : Type 0} → Drawing G → View → Bool → Feature G → List ℕ
element drawing view is_match f =
    drawing.start_of f.shape is_match ++ (drawing.path_of view f.shape
    ++ (codes "\">" ++ (title f.id ++ codes "</path>\n")))

-- the elements of a layer's features, each once and in order
abbrev pub group : {G : Type 0} → List ℕ → Drawing G → View → (ℕ → Bool) → Contents G → List ℕ
group side drawing view is_match layer =
    codes "<g class=\"" ++ (side ++ (codes "\">\n"
    ++ (flat_map (λ f. element drawing view (is_match f.number) f) layer.features
    ++ codes "</g>\n")))

-- a text and a number
abbrev pub counted : List ℕ → ℕ → List ℕ
counted before count = before ++ decimal count

-- the style of the classes: the left layer is blue, the right one vermillion, and matches are
-- filled more strongly
abbrev pub style : List ℕ
style =
    codes "<style>text{font:16px sans-serif}"
    ++ (codes "path{stroke-width:.1%;stroke-linecap:round;stroke-linejoin:round;fill-opacity:.06}"
    ++ (codes ".point{stroke-width:.5%}.match{stroke-width:.25%;fill-opacity:.24}"
    ++ (codes ".point.match{stroke-width:.9%}.left{fill:#0072B2;stroke:#0072B2}"
    ++ codes ".right{fill:#D55E00;stroke:#D55E00}</style>\n")))

-- the start of a picture of this height: its size, its style and its background
abbrev pub opening : ℕ → List ℕ
opening height =
    codes "<svg xmlns=\"http://www.w3.org/2000/svg\" version=\"1.1\""
    ++ (counted (codes " width=\"1000\" height=\"") height
    ++ (counted (codes "\" viewBox=\"0 0 1000 ") height ++ (codes "\">\n"
    ++ (style ++ codes "<rect width=\"100%\" height=\"100%\" fill=\"#fff\"/>\n"))))

-- the legend before each number: a square of the colour, and the name of the number
abbrev pub left_key : List ℕ
left_key =
    codes "<path class=\"left\" d=\"M20 12h16v16h-16z\"/>"
    ++ codes "<text x=\"46\" y=\"26\">left features: "

abbrev pub right_key : List ℕ
right_key =
    codes "</text>\n<path class=\"right\" d=\"M320 12h16v16h-16z\"/>"
    ++ codes "<text x=\"346\" y=\"26\">right features: "

abbrev pub match_key : List ℕ
match_key =
    codes "</text>\n<path class=\"left match\" d=\"M620 12h16v16h-16z\"/>"
    ++ (codes "<path class=\"right match\" d=\"M642 12h16v16h-16z\"/>"
    ++ codes "<text x=\"668\" y=\"26\">matching pairs: ")

-- the numbers of left features, right features and pairs
abbrev pub legend : ℕ → ℕ → ℕ → List ℕ
legend left right pairs =
    counted left_key left ++ (counted right_key right ++ (counted match_key pairs
    ++ codes "</text>\n"))

-- the start of the element that shows the view at this height, below the legend
abbrev pub canvas : ℕ → View → List ℕ
canvas height view =
    counted (codes "<svg y=\"40\" width=\"1000\" height=\"") height
    ++ (counted (codes "\" preserveAspectRatio=\"xMidYMin\" viewBox=\"0 0 ") view.width
    ++ (counted (codes " ") view.height ++ codes "\">\n"))

-- the end tags of the view's element and of the picture
abbrev pub closing : List ℕ
closing = codes "</svg>\n</svg>\n"

-- the legend, and each feature of the left layer and then of the right one, in order, with those
-- that occur in a pair highlighted
abbrev pub picture_of : {G : Type 0} → Drawing G → Contents G → Contents G → List (ℕ × ℕ)
    → List ℕ
picture_of drawing left right pairs =
    let view = view_of drawing.box_of left right in
    let height = drawn_height view in
    opening (height + 40)
    ++ (legend (length left.features) (length right.features) (length pairs)
    ++ (canvas height view
    ++ (group (codes "left") drawing view (has_left pairs) left
    ++ (group (codes "right") drawing view (has_right pairs) right
    ++ closing))))
