-- The results of workers that refine a list, chunk by chunk.
use Rattle.std.specs.Prelude.{◌≡◌, ℕ, true, List, [], ◌∷◌, All, Result, Ok, Err, map, length}
use Rattle.std.specs.Prelude.{Contains, slice_index_or}
use Rattle.std.specs.declared.alloc.Global.{Global}
use Rattle.std.specs.declared.vec.Vec.{Vec}
use Rattle.std.specs.declared.alloc.AllocError.{AllocError}
use Rattle.deliver_core.specs.Boards.{BoardValue, SeatValue, IsSeatOf}
use Rattle.refine_core.specs.declared.refined.Refined.{Refined}
use Rattle.refine_core.specs.declared.worker.Part.{Part}
use Rattle.refine_core.specs.declared.worker.Share.{Share}
use Rattle.refine_core.specs.Chunks.{chunk_of, IsChunkNumber}
use Rattle.refine_core.specs.Refinements.{AreRefined}

-- the numbers of the chunks of these parts
abbrev pub numbers_of : {A : Type 0} → List (Part A) → List ℕ
numbers_of parts = map (λ part. part.chunk) parts

-- the pairs of one chunk of the list that satisfy the condition
pub record IsPart {A : Type 0} (stands : ℕ → ℕ → Type 0) (answers : ℕ → ℕ → A → Type 0)
    (pairs : List (ℕ × ℕ)) (part : Part A) : Type 0 where
  pub number : IsChunkNumber (length pairs) part.chunk
  pub refined : AreRefined stands answers (chunk_of pairs part.chunk) part.refined.items

-- the result of a worker once no chunk is left: a part for each chunk that its seat drew
pub record IsShare {A : Type 0} (stands : ℕ → ℕ → Type 0) (answers : ℕ → ℕ → A → Type 0)
    (board : BoardValue) (pairs : List (ℕ × ℕ)) (share : Share A) : Type 0 where
  pub seat : IsSeatOf board share.seat
  pub done : share.seat.done ≡ true
  pub numbers : numbers_of share.parts.items ≡ share.seat.drawn
  pub parts : All (IsPart stands answers pairs) share.parts.items

-- the seat and the parts of a worker, unless an allocation failed in it
abbrev pub seat_in : {A : Type 0} → Result (Share A) AllocError → List SeatValue
seat_in (Ok share) = share.seat ∷ []
seat_in (Err refused) = []

abbrev pub parts_in : {A : Type 0} → Result (Share A) AllocError → List (Part A)
parts_in (Ok share) = share.parts.items
parts_in (Err refused) = []

-- the row with this number is that of a part for the chunk with this number
pub record HasRow {A : Type 0} (parts : List (Part A)) (rows : List (Vec (Refined A) Global))
    (number : ℕ) : Type 0 where
  pub row : Vec (Refined A) Global
  pub there : (d : Vec (Refined A) Global) → slice_index_or rows number d ≡ row
  pub of_part : Contains parts (record { chunk = number; refined = row })
