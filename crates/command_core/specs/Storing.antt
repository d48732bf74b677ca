-- The files that a command stores.
use Rattle.std.specs.Prelude.{◌≡◌, ℕ, List, [], ◌∷◌, ◌++◌, Option, Some, IfSome}

-- a file that was stored
pub record StoredFile : Type 0 where
  pub path : List ℕ
  pub bytes : List ℕ

-- the files that were stored, in order, if they are known
abbrev pub Stored : Type 0
Stored = Option (List StoredFile)

-- the known files grow by one with this path and these bytes
abbrev pub Stores : Stored → Stored → List ℕ → List ℕ → Type 0
Stores old new path bytes =
    IfSome old (λ before. new ≡ Some (before ++ record { path = path; bytes = bytes } ∷ []))
