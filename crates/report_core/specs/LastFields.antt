-- The last field of a report's record, as it is written.
use Rattle.std.specs.Prelude.{◌≡◌, ℕ, List, ◌++◌, Option, Some, None}
use Rattle.layer_core.specs.Layers.{Feature, Contents, with_number}
use Rattle.csv.specs.Writing.{default_writer, field_text}
use Rattle.report_core.specs.Reports.{IsHeld}

-- the layers hold features with these numbers, and a field for their geometries was added, in
-- quotes if it needs them
pub record AddsField {G : Type 0} (is_field : G → G → List ℕ → Type 0) (left right : Contents G)
    (pair : ℕ × ℕ) (old new : List ℕ) : Type 0 where
  pub first : Feature G
  pub second : Feature G
  pub field : List ℕ
  pub first_held : with_number pair.0 left ≡ Some first
  pub second_held : with_number pair.1 right ≡ Some second
  pub correct : is_field first.shape second.shape field
  pub added : new ≡ old ++ field_text default_writer field

-- the layers hold features with these numbers; a field for their geometries was added, in quotes
-- if it needs them, in a report whose last column has a name, and nothing in a report of ids alone
abbrev pub AddsLast : {G : Type 0} → Option (List ℕ) → (G → G → List ℕ → Type 0) → Contents G
    → Contents G → ℕ × ℕ → List ℕ → List ℕ → Type 0
AddsLast None is_field left right pair old new = IsHeld left right pair × (new ≡ old)
AddsLast (Some name) is_field left right pair old new = AddsField is_field left right pair old new
