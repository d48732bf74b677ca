-- Masks: their texts, and the matrices that they fit.
use Rattle.std.specs.Prelude.{◌≡◌, ◌≢◌, ℕ, ◌+◌, ◌<◌, ◌≤◌, ⊤, List, [], ◌∷◌, length, slice_index}
use Rattle.std.specs.Char.{to_ascii_uppercase}
use Rattle.std.specs.Str.{str_to_ascii_uppercase}
use Rattle.relation_core.specs.declared.extent.Extent.{Extent}
use Rattle.relation_core.specs.declared.extent.Extent.TheVariants.{Empty}
use Rattle.relation_core.specs.declared.part.Parts.{Parts}
use Rattle.relation_core.specs.declared.matrix.Matrix.{Matrix}
use Rattle.relation_core.specs.declared.pattern_value.PatternValue.{PatternValue}
use Rattle.relation_core.specs.declared.pattern_value.PatternValue.TheVariants.{Any, NotEmpty}
use Rattle.relation_core.specs.declared.pattern_value.PatternValue.TheVariants.{Exactly}
use Rattle.relation_core.specs.declared.mask.Mask.{Mask}
use Rattle.relation_core.specs.declared.mask.MaskFault.{MaskFault}
use Rattle.relation_core.specs.declared.mask.MaskFault.TheVariants.{Letter}
use Rattle.relation_core.specs.Matrices.{letter_of}

-- the letter of a value: that of the entry if it requires one
abbrev pub letter_of_value : PatternValue → ℕ
letter_of_value Any = 42  -- *
letter_of_value NotEmpty = 84  -- T
letter_of_value (Exactly extent) = letter_of extent

abbrev pub row_text : Parts PatternValue → List ℕ → List ℕ
row_text row rest =
    letter_of_value row.interior
    ∷ letter_of_value row.boundary
    ∷ letter_of_value row.exterior
    ∷ rest

-- the nine letters, row by row
abbrev pub text_of : Mask → List ℕ
text_of mask =
    row_text mask.rows.interior
    (row_text mask.rows.boundary (row_text mask.rows.exterior []))

-- the text is that of the mask, with T and F in either case
abbrev pub SpellsMask : List ℕ → Mask → Type 0
SpellsMask text mask = str_to_ascii_uppercase text ≡ text_of mask

-- the byte stands for the value, with T and F in either case
abbrev pub IsLetterOf : PatternValue → ℕ → Type 0
IsLetterOf value byte = to_ascii_uppercase byte ≡ letter_of_value value

-- the byte stands for some value
abbrev pub IsLetter : ℕ → Type 0
IsLetter byte = (value : PatternValue) × IsLetterOf value byte

-- this is the index of the first byte, from a given index, that is no letter of a mask
pub record IsFirstBadFrom (text : List ℕ) (first place : ℕ) : Type 0 where
  pub behind : first ≤ place
  pub within : place < length text
  pub bad : ¬ (IsLetter (slice_index text place))
  pub before : (k : ℕ) → first ≤ k → k < place → IsLetter (slice_index text k)

-- this is the index of the first byte that is no letter of a mask
abbrev pub IsFirstBad : List ℕ → ℕ → Type 0
IsFirstBad text place = IsFirstBadFrom text 0 place

-- the text has nine bytes, and this is the index of the first that is no letter of a mask
abbrev pub HasBadLetter : List ℕ → ℕ → Type 0
HasBadLetter text place = (length text ≡ 9) × IsFirstBad text place

-- the fault gives the index of the first bad byte between two indexes
pub record TellsBad (text : List ℕ) (first end : ℕ) (fault : MaskFault) : Type 0 where
  pub place : ℕ
  pub told : fault ≡ Letter place
  pub before_end : place < end
  pub first_bad : IsFirstBadFrom text first place

-- the three bytes from an index stand for the values of a row
pub record SpellsRow (text : List ℕ) (first : ℕ) (row : Parts PatternValue) : Type 0 where
  pub interior : IsLetterOf row.interior (slice_index text first)
  pub boundary : IsLetterOf row.boundary (slice_index text (first + 1))
  pub exterior : IsLetterOf row.exterior (slice_index text (first + 2))

-- the nine bytes of the text spell three rows
pub record SpellsRows (text : List ℕ) (rows : Parts (Parts PatternValue)) : Type 0 where
  pub interior : SpellsRow text 0 rows.interior
  pub boundary : SpellsRow text 3 rows.boundary
  pub exterior : SpellsRow text 6 rows.exterior

-- the condition of a value on an entry
abbrev pub Allows : PatternValue → Extent → Type 0
Allows Any extent = ⊤
Allows NotEmpty extent = extent ≢ Empty
Allows (Exactly wanted) extent = extent ≡ wanted

-- each value of a row of the mask allows its entry
pub record FitsRow (row : Parts PatternValue) (entries : Parts Extent) : Type 0 where
  pub interior : Allows row.interior entries.interior
  pub boundary : Allows row.boundary entries.boundary
  pub exterior : Allows row.exterior entries.exterior

-- each of the nine values of the mask allows its entry
pub record Fits (mask : Mask) (matrix : Matrix) : Type 0 where
  pub interior : FitsRow mask.rows.interior matrix.rows.interior
  pub boundary : FitsRow mask.rows.boundary matrix.rows.boundary
  pub exterior : FitsRow mask.rows.exterior matrix.rows.exterior

-- a row of the mask by its three values
abbrev pub row : PatternValue → PatternValue → PatternValue → Parts PatternValue
row i b e = record { interior = i; boundary = b; exterior = e }

-- the mask that fits each matrix
abbrev pub asks_nothing : Mask
asks_nothing = record {
  rows = record {
    interior = row Any Any Any;
    boundary = row Any Any Any;
    exterior = row Any Any Any;
  };
}
