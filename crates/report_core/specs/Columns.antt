-- The ids of a layer's features as a report finds them, by number.
use Rattle.std.specs.Prelude.{◌≡◌, ◌≤◌, ◌<◌, ◌+◌, ℕ, List, [], Option, Some, None, get_or}
use Rattle.std.specs.Prelude.{length, slice_range, All}
use Rattle.std.specs.Option.{option_map}
use Rattle.layer_core.specs.Layers.{Contents, with_number}
use Rattle.report_core.specs.CsvTexts.{leading_field}
use Rattle.report_core.specs.declared.columns.Columns.{Columns}

-- the id of the feature with this number
abbrev pub id_in : {G : Type 0} → Contents G → ℕ → Option (List ℕ)
id_in layer number = option_map (λ f. f.id) (with_number number layer)

-- the field of a feature's id, empty if there is no feature
abbrev pub field_for : Option (List ℕ) → List ℕ
field_for None = []
field_for (Some id) = leading_field id

-- the text has a feature's field from one index to another
pub record HasField (text : List ℕ) (start end : ℕ) (id : Option (List ℕ)) : Type 0 where
  pub in_order : start ≤ end
  pub within : end ≤ length text
  pub field : slice_range text start end ≡ field_for id

-- the text has the fields of the ids with the first numbers, each from its start to the next one
pub record IsColumn (ids : ℕ → Option (List ℕ)) (starts text : List ℕ) : Type 0 where
  pub each : (number : ℕ) → number + 1 < length starts
      → HasField text (get_or starts number 0) (get_or starts (number + 1) 0) (ids number)

-- columns of two layers that cover the numbers of these matches
pub record AreColumnsFor {G A : Type 0} (pair_of : A → ℕ × ℕ) (left right : Contents G)
    (matches : List A) (columns : Columns) : Type 0 where
  pub left_column : IsColumn (id_in left) columns.left.starts.items columns.left.text.items
  pub right_column : IsColumn (id_in right) columns.right.starts.items columns.right.text.items
  pub left_within : All (λ a. (pair_of a).0 + 1 < length columns.left.starts.items) matches
  pub right_within : All (λ a. (pair_of a).1 + 1 < length columns.right.starts.items) matches
