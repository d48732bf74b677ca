-- A header is one if its names are those of the columns, place by place.
use Rattle.std.proofs.Common.{◌≡◌, ◌⊎◌, inl, inr, ℕ, zero, suc, ◌+◌, ◌<◌, List, [], ◌∷◌, length, map, get_or, Some, Bor, refl, sym, ap, ◌∙◌, arith, ext_get_or}
use Rattle.std.specs.Char.{to_ascii_lowercase}
use Rattle.std.proofs.lemmas.Bool.{cases_order}
use Rattle.std.proofs.lemmas.List.{length-map}
use Rattle.csv.specs.Records.{field_at}
use Rattle.row_core.specs.Records.{Record}
use Rattle.row_core.specs.Rows.{lowercase, IsHeader}
use Rattle.row_core.specs.Tables.{HasNoneFrom, IsNamedAt, IsNextNamed, IsOnlyAt}

-- the names of the columns
abbrev pub names : List (Bor (List ℕ)) → Record
names columns = map (λ c. c.now) columns

abbrev pub small : List ℕ → List ℕ
small name = map to_ascii_lowercase name

-- the text after the last column
abbrev pub nothing : Bor (List ℕ)
nothing = record { ref_ptr = (0, 0); now = [] }

-- the header's name at this place is the column's
abbrev pub AgreesAt : Record → List (Bor (List ℕ)) → ℕ → Type 0
AgreesAt fields columns k = get_or (lowercase fields) k [] ≡ get_or (lowercase (names columns)) k []

field-small : (fields : Record) (i : ℕ) (field : List ℕ) → Some field ≡ field_at fields i → get_or (lowercase fields) i [] ≡ small field
unfolding field_at
field-small [] i field e = cc
field-small (f ∷ fs) zero field e = let same : field ≡ f = cc in ap small (sym same)
field-small (f ∷ fs) (suc i) field e = field-small fs i field e

column-small : (columns : List (Bor (List ℕ))) (i : ℕ) (d : Bor (List ℕ)) → i < length columns
    → get_or (lowercase (names columns)) i [] ≡ small (get_or columns i d).now
column-small [] i d h = absurd (omega arith)
column-small (c ∷ cs) zero d h = refl
column-small (c ∷ cs) (suc i) d h = column-small cs i d (omega arith)

module _ (fields : Record) (columns : List (Bor (List ℕ))) (i : ℕ) (d : Bor (List ℕ)) (field : List ℕ) (within : i < length columns)
    (found : Some field ≡ field_at fields i) where
  pub agrees : small field ≡ small (get_or columns i d).now → AgreesAt fields columns i
  agrees same = field-small fields i field found ∙ same ∙ sym (column-small columns i d within)

  pub agrees-inverse : IsHeader (names columns) fields → small field ≡ small (get_or columns i d).now
  agrees-inverse header = sym (field-small fields i field found) ∙ ap (λ (names : Record). get_or names i []) header ∙ column-small columns i d within

length-small : (fields : Record) → length (lowercase fields) ≡ length fields
length-small fields = length-map fields (map to_ascii_lowercase)

pub length-header : (fields : Record) (columns : List (Bor (List ℕ))) → IsHeader (names columns) fields → length fields ≡ length columns
length-header fields columns header =
    sym (length-small fields) ∙ ap length header ∙ length-small (names columns) ∙ length-map columns (λ c. c.now)

pub header-agrees : (fields : Record) (columns : List (Bor (List ℕ))) → length fields ≡ length columns
    → ((k : ℕ) → k < length columns → AgreesAt fields columns k) → IsHeader (names columns) fields
header-agrees fields columns len agree =
    ext_get_or [] (lowercase fields) (lowercase (names columns))
    (length-small fields ∙ len ∙ sym (length-small (names columns) ∙ length-map columns (λ c. c.now)))
    (λ k h. agree k (omega (arith, length-small fields)))

-- ---- the place of a name

-- a name at this place and at none behind it, the first at which it stands
pub only_here : (name : List ℕ) (header : Record) (place : ℕ) → IsNextNamed name header 0 place → HasNoneFrom name header (place + 1) → IsOnlyAt name header place
only_here name header place next none = record {
  within = next.within;
  named = next.named;
  only = λ other within named. by other within named (cases_order other place);
}
  where
    by : (other : ℕ) → other < length header → IsNamedAt name header other → (other ≡ place) ⊎ ((other < place) ⊎ (place < other)) → other ≡ place
    by other within named (inl same) = same
    by other within named (inr (inl before)) = absurd (next.none_before other (omega arith) before named)
    by other within named (inr (inr behind)) = absurd (none other (omega arith) within named)

pub only_missing : (name : List ℕ) (header : Record) → HasNoneFrom name header 0 → (place : ℕ) → ¬ (IsOnlyAt name header place)
only_missing name header none place only = none place (omega arith) only.within only.named

pub only_twice : (name : List ℕ) (header : Record) (first second : ℕ) → IsNextNamed name header 0 first → IsNextNamed name header (first + 1) second
    → (place : ℕ) → ¬ (IsOnlyAt name header place)
only_twice name header first second one two place only =
    absurd (omega (arith, only.only first one.within one.named, only.only second two.within two.named, two.from))

pub ruleset only_place = (only_here, only_missing, only_twice)
