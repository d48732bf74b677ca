-- Lists as collections: their items with multiplicity, in any order.
use Rattle.std.specs.Prelude.{◌≡◌, Bool, List, ◌∷◌, count_by}

-- the same items, with multiplicity: each test is passed by equally many items of both lists
abbrev pub HasSame : {T : Type 0} → List T → List T → Type 0
HasSame {T} xs ys = (p : T → Bool) → count_by p xs ≡ count_by p ys

-- the second list has the items of the first, and x once more
abbrev pub Gains : {T : Type 0} → T → List T → List T → Type 0
Gains x old new = HasSame (x ∷ old) new
