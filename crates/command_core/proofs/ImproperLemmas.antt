-- The line of the rows that have improper rings.
use Rattle.std.proofs.Common.{◌≡◌, ◌≤◌, ◌+◌, ◌*◌, ℕ, List, ◌++◌, codes, decimal, length, take}
use Rattle.std.proofs.Common.{◌≢◌, Bool, true, false, [], ◌∷◌, Option, IsTrue, refl}
use Rattle.std.specs.List.{flat_map}
use Rattle.command_core.specs.Endings.{IsLineOn, IsToldOfRows}
use Rattle.command_core.specs.ImproperRows.{rows_line}

-- behind these bytes, some of these rows were added
pub record HasRows (bytes begun : List ℕ) (few : List ℕ) (count : ℕ) : Type 0 where
  pub said : bytes ≡ begun ++ flat_map (λ r. codes ", " ++ decimal r) (take count few)
  pub short : length bytes ≤ 106 + 12 * count
  pub within : length few ≤ 4

module _ {S : Type 0} (written : S → Option (List ℕ)) (has_failed : S → Bool) (old : S) (input : List ℕ) where
  -- nothing is written behind a line that was not
  pub not_told : (rows : List ℕ) → IsTrue (has_failed old) → IsToldOfRows written has_failed old old input rows
  not_told [] failed = refl
  not_told (row ∷ rows) failed = record { told = λ fine. let is : false ≡ true = cc in cc; untold = λ h. refl }

  -- there are rows, and their line was written, or a part of it
  pub rows_told : (new : S) (rows : List ℕ) → rows ≢ [] → has_failed old ≡ false → IsLineOn written has_failed old new (rows_line input rows)
      → IsToldOfRows written has_failed old new input rows
  rows_told new [] some fine line = absurd (some refl)
  rows_told new (row ∷ rows) some fine line = record { told = λ h. line; untold = λ failed. let is : false ≡ true = cc in cc }
