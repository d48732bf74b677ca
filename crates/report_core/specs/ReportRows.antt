-- The records of a report, as they are written.
use Rattle.std.specs.Prelude.{◌≡◌, ℕ, ◌-◌, Bool, true, false, List, [], ◌∷◌, ◌++◌, length, take}
use Rattle.std.specs.Prelude.{Option, Result, Ok, Err}
use Rattle.std.specs.Borrow.{Bor}
use Rattle.std.specs.Global.{Global}
use Rattle.std.specs.Option.{option_map}
use Rattle.std.specs.declared.alloc.AllocError.{AllocError}
use Rattle.std.specs.declared.vec.Vec.{Vec}
use Rattle.layer_core.specs.Layers.{Contents}
use Rattle.report_core.specs.CsvTexts.{csv_text}
use Rattle.report_core.specs.Reports.{header, IsRow, HasRecords}

-- the record of a match: that of its pair
abbrev pub IsRowOf : {G A : Type 0} → (A → ℕ × ℕ) → Option (List ℕ)
    → (G → G → List ℕ → Type 0) → Contents G → Contents G → A → List (List ℕ) → Type 0
IsRowOf pair_of name is_field left right found row =
    IsRow name is_field left right (pair_of found) row

-- the text has one record for each item in order
abbrev pub AreRows : {A : Type 0} → (A → List (List ℕ) → Type 0) → List A → List ℕ → Type 0
AreRows IsRecord items text = HasRecords IsRecord [] items text

-- the second of two fields with their commas, as a record has it: the comma is left out if no field
-- follows
abbrev pub right_part : Bool → List ℕ → List ℕ
right_part true field = field
right_part false field = take (length field - 1) field

-- such a text was added
pub record AddsRows {A : Type 0} (IsRecord : A → List (List ℕ) → Type 0) (items : List A)
    (old new : List ℕ) : Type 0 where
  pub text : List ℕ
  pub are_rows : AreRows IsRecord items text
  pub added : new ≡ old ++ text

-- the name of the last column, if one is given
abbrev pub name_in : Option (Bor (List ℕ)) → Option (List ℕ)
name_in = option_map (λ name. name.now)

-- the header as CSV
abbrev pub header_line : Option (List ℕ) → List ℕ
header_line name = csv_text (header name ∷ [])

-- a text, or nothing if its allocation failed
abbrev pub text_or_none : Result (Vec ℕ Global) AllocError → List ℕ
text_or_none (Ok text) = text.items
text_or_none (Err refused) = []
