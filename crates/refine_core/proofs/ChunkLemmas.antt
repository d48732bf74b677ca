-- The chunks of a list cover it, and each starts within it.
use Rattle.std.proofs.Common.{◌≡◌, ℕ, zero, suc, ◌+◌, ◌*◌, ◌/◌, ◌%◌, ◌<◌, ◌≤◌, min, List, ◌++◌, take, drop, arith, sym, ap, ◌∙◌}
use Rattle.std.proofs.Common.{add-mul, one-mul, div-add-mod', zero-mul, suc-mul, take-append-drop, ⊎_elim}
use Rattle.std.proofs.lemmas.Nat.{mul-le}
use Rattle.std.proofs.lemmas.Bool.{cases_lt}
use Rattle.std.proofs.lemmas.List.{take-take, drop-take}

-- a chunk below the number of all begins within the list
pub begins_within : (number len size : ℕ) → 0 < size → number < len / size + min 1 (len % size) → number * size < len
begins_within number len size some below =
    let q = len / size in
    let whole : q * size + len % size ≡ len = div-add-mod' len size in
    ⊎_elim
    (λ h. let l = mul-le number size q size (omega arith) (omega arith) in omega arith)
    (λ h. let l = mul-le (number + 1) size q size (omega arith) (omega arith) in
    let e = add-mul number 1 size in let o = one-mul size in omega arith)
    (cases_lt 0 (len % size))

-- a list that isn't empty has a chunk
pub some_chunks : (count len size : ℕ) → 0 < len → len ≤ count * size → 0 < count
some_chunks zero len size filled covered = absurd (omega (arith, zero-mul size))
some_chunks (suc n) len size filled covered = omega arith

-- a chunk that begins within the list is one of those that cover it
pub is_counted : (count number len size : ℕ) → number * size < len → len ≤ count * size → number < count
is_counted count number len size within covered =
    ⊎_elim
    (λ below. below)
    (λ above. let l = mul-le count size number size above (omega arith) in absurd (omega arith))
    (cases_lt number count)

-- the pairs before a chunk, and the chunk
pub next_chunk : {X : Type 0} (xs : List X) (size n : ℕ) → take (n * size) xs ++ take size (drop (n * size) xs) ≡ take (suc n * size) xs
next_chunk xs size n =
    let ys = take (n * size + size) xs in
    ap (λ z. z ++ take size (drop (n * size) xs)) (sym (take-take (n * size) (n * size + size) xs (omega arith)))
    ∙ ap (λ z. take (n * size) ys ++ z) (sym (drop-take (n * size) size xs))
    ∙ take-append-drop (n * size) ys ∙ ap (λ k. take k xs) (sym (suc-mul n size))
