-- The corners of a layer's features as CSV.
use Rattle.std.specs.Fmt.{signed_decimal}
use Rattle.std.specs.Prelude.{◌≡◌, ℕ, List, [], ◌∷◌, codes, map}
use Rattle.geom_core.specs.Shapes.{x1, y1, x2, y2}
use Rattle.geom_core.specs.declared.shape.Shape.{Shape}
use Rattle.layer_core.specs.Layers.{Feature, Contents}
use Rattle.report_core.specs.CsvTexts.{csv_text}

abbrev pub bounds_header : List (List ℕ)
bounds_header = codes "id" ∷ codes "x1" ∷ codes "y1" ∷ codes "x2" ∷ codes "y2" ∷ []

-- an id, and the corners of a box in decimal digits
abbrev pub corners_row : List ℕ → Shape → List (List ℕ)
corners_row id s =
    id ∷ signed_decimal (x1 s) ∷ signed_decimal (y1 s) ∷ signed_decimal (x2 s)
    ∷ signed_decimal (y2 s) ∷ []

-- a feature's id, and the corners of its box
abbrev pub bounds_row : {G : Type 0} → (G → Shape) → Feature G → List (List ℕ)
bounds_row box_of f = corners_row f.id (box_of f.shape)

-- the header, and one record for each feature in order
abbrev pub bounds_text : {G : Type 0} → (G → Shape) → List (Feature G) → List ℕ
bounds_text box_of features = csv_text (bounds_header ∷ map (bounds_row box_of) features)

-- the corners of the features of a layer, in units of the last decimal
abbrev pub ListsCorners : {G : Type 0} → (G → Shape) → Contents G → List ℕ → Type 0
ListsCorners box_of layer text = text ≡ bounds_text box_of layer.features
