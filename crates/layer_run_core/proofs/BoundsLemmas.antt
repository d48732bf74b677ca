-- The rows of a list of corners.
use Rattle.std.proofs.Common.{◌≡◌, ℕ, List, [], ◌∷◌, ◌++◌, Vec, Global, map, sym, ap, ◌∙◌, append-nil, append_assoc}
use Rattle.csv.specs.declared.writer.Writer.{Writer}
use Rattle.geom_core.specs.declared.shape.Shape.{Shape}
use Rattle.layer_core.specs.Layers.{Feature}
use Rattle.report_core.specs.CsvTexts.{csv_text}
use Rattle.run_core.specs.CsvWriting.{HasRows, AddsRow}
use Rattle.layer_run_core.specs.Bounds.{bounds_header, bounds_row, bounds_text}

-- the rows that a writer has, followed by those of the remaining features, are those of these
-- features
pub record HasFront {G : Type 0} (box_of : G → Shape) (writer : Writer (Vec ℕ Global)) (left features : List (Feature G)) : Type 0 where
  pub rows : List (List (List ℕ))
  pub written : HasRows writer rows
  pub all : rows ++ map (bounds_row box_of) left ≡ bounds_header ∷ map (bounds_row box_of) features

pub header_written : {G : Type 0} (box_of : G → Shape) (old writer : Writer (Vec ℕ Global)) (left features : List (Feature G)) → HasRows old [] → AddsRow old writer bounds_header
    → left ≡ features → HasFront box_of writer left features
header_written box_of old writer left features empty more same = record {
  rows = bounds_header ∷ [];
  written = more [] empty;
  all = ap (λ fs. bounds_header ∷ map (bounds_row box_of) fs) same;
}

-- one more row
pub row_written : {G : Type 0} (box_of : G → Shape) (old writer : Writer (Vec ℕ Global)) (left left' features : List (Feature G)) (f : Feature G) → HasFront box_of old left features
    → left ≡ f ∷ left' → AddsRow old writer (bounds_row box_of f) → HasFront box_of writer left' features
row_written box_of old writer left left' features f front is more = record {
  rows = front.rows ++ bounds_row box_of f ∷ [];
  written = more front.rows front.written;
  all = append_assoc front.rows (bounds_row box_of f ∷ []) (map (bounds_row box_of) left') ∙ ap (λ fs. front.rows ++ map (bounds_row box_of) fs) (sym is) ∙ front.all;
}

-- no feature remains
pub all_written : {G : Type 0} (box_of : G → Shape) (writer : Writer (Vec ℕ Global)) (left features : List (Feature G)) (text : List ℕ) → HasFront box_of writer left features → left ≡ []
    → ((rows : List (List (List ℕ))) → HasRows writer rows → text ≡ csv_text rows) → text ≡ bounds_text box_of features
all_written box_of writer left features text front none kept =
    kept front.rows front.written ∙ ap csv_text (sym (append-nil front.rows) ∙ ap (λ fs. front.rows ++ map (bounds_row box_of) fs) (sym none) ∙ front.all)
