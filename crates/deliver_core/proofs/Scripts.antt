-- The contents of a script: the marks of its task and, cut into batches, the whole row.
use Rattle.std.proofs.Common.{◌≡◌, ℕ, zero, suc, ◌+◌, ◌-◌, ◌*◌, ◌<◌, ◌≤◌, List, [], ◌∷◌, ◌++◌, map, length, take, refl, sym, ap, ◌∙◌, arith, add-one}
use Rattle.std.proofs.Common.{length-take, length-drop}
use Rattle.std.specs.List.{flat_map, range_with_len}
use Rattle.std.proofs.Math.Nat.{mod-lt, mul-le-mul_right}
use Rattle.std.proofs.Math.Seq.{take-add}
use Rattle.std.proofs.lemmas.Grind.{flat_map-append}
use Rattle.std.proofs.lemmas.List.{append-nil, take_all}
use Rattle.std.proofs.lemmas.List.FromFn.{map-range_with_len_more}
use Rattle.std.proofs.lemmas.Nat.{div-add-mod'}
use Rattle.deliver_core.specs.declared.mark.Mark.TheVariants.{Batch, End}
use Rattle.deliver_core.specs.Marks.{batch_marks, script_marks}
use Rattle.deliver_core.specs.Scripts.{batch_of, end_of, marks_in, pairs_in, batches_for, piece_of, script_batches, script}

-- the marks
marks_in-numbers : (task size : ℕ) (row : List (ℕ × ℕ)) (numbers : List ℕ)
    → flat_map marks_in (map (λ number. batch_of task number (piece_of size row number)) numbers) ≡ map (λ number. Batch task number) numbers
marks_in-numbers task size row [] = refl
marks_in-numbers task size row (number ∷ numbers) = ap (λ marks. Batch task number ∷ marks) (marks_in-numbers task size row numbers)

pub marks_in-batches : (task size : ℕ) (row : List (ℕ × ℕ)) (count : ℕ) → flat_map marks_in (script_batches task size row count) ≡ batch_marks task count
marks_in-batches task size row count = marks_in-numbers task size row (range_with_len 0 count)

pub marks_in-script : (task size : ℕ) (row : List (ℕ × ℕ)) → flat_map marks_in (script task size row) ≡ script_marks task (batches_for size row)
marks_in-script task size row =
    flat_map-append marks_in (script_batches task size row (batches_for size row)) (end_of task (batches_for size row) ∷ [])
    ∙ ap (λ marks. marks ++ End task (batches_for size row) ∷ []) (marks_in-batches task size row (batches_for size row))

-- the pairs
pub pairs_in-batches : (task size : ℕ) (row : List (ℕ × ℕ)) (count : ℕ) → flat_map pairs_in (script_batches task size row count) ≡ take (count * size) row
pairs_in-batches task size row zero =
    let none : 0 * size ≡ 0 = omega arith in
    ap (λ n. take n row) (sym none)
pairs_in-batches task size row (suc count) =
    let longer : count * size + size ≡ suc count * size = omega arith in
    ap (λ n. flat_map pairs_in (script_batches task size row n)) (sym (add-one count))
    ∙ ap (flat_map pairs_in) (map-range_with_len_more (λ number. batch_of task number (piece_of size row number)) 0 count count (omega arith))
    ∙ flat_map-append pairs_in (script_batches task size row count) (batch_of task count (piece_of size row count) ∷ [])
    ∙ ap (λ pairs. pairs ++ (piece_of size row count ++ [])) (pairs_in-batches task size row count)
    ∙ ap (λ pairs. take (count * size) row ++ pairs) (append-nil (piece_of size row count))
    ∙ sym (take-add (count * size) size row)
    ∙ ap (λ n. take n row) longer

-- this number of batches holds the row, and one fewer doesn't
batches-reach : (size : ℕ) (row : List (ℕ × ℕ)) → 0 < size → length row ≤ batches_for size row * size
batches-reach size row some =
    let whole = div-add-mod' (length row + (size - 1)) size in
    let part = mod-lt (length row + (size - 1)) some in
    omega arith

number-reach : (size : ℕ) (row : List (ℕ × ℕ)) → 0 < size → (number : ℕ) → number < batches_for size row → number * size < length row
number-reach size row some number below =
    let whole = div-add-mod' (length row + (size - 1)) size in
    let rows : (number + 1) * size ≤ batches_for size row * size = mul-le-mul_right size (omega arith) in
    omega arith

pub pairs_in-script : (task size : ℕ) (row : List (ℕ × ℕ)) → 0 < size → flat_map pairs_in (script task size row) ≡ row
pairs_in-script task size row some =
    flat_map-append pairs_in (script_batches task size row (batches_for size row)) (end_of task (batches_for size row) ∷ [])
    ∙ append-nil (flat_map pairs_in (script_batches task size row (batches_for size row)))
    ∙ pairs_in-batches task size row (batches_for size row)
    ∙ take_all (batches_for size row * size) row (batches-reach size row some)

-- each batch has a pair and at most `size`, and each but the last has `size`
pub length-piece_of : (size : ℕ) (row : List (ℕ × ℕ)) → 0 < size → (number : ℕ) → number < batches_for size row
    → (0 < length (piece_of size row number)) × (length (piece_of size row number) ≤ size)
length-piece_of size row some number below =
    let reached = number-reach size row some number below in
    simp (length-take, length-drop) (omega arith, omega arith)

pub length-full_piece : (size : ℕ) (row : List (ℕ × ℕ)) → 0 < size → (number : ℕ) → number + 1 < batches_for size row → length (piece_of size row number) ≡ size
length-full_piece size row some number below =
    let reached = number-reach size row some (number + 1) below in
    simp (length-take, length-drop) (omega arith)

-- seven pairs by three are batches of 3, 3 and 1 pairs, by seven one batch; an empty row is its end alone
seven : List (ℕ × ℕ)
seven = (7, 7) ∷ (8, 8) ∷ (9, 9) ∷ (10, 10) ∷ (11, 11) ∷ (12, 12) ∷ (13, 13) ∷ []

by_three : script 1 3 seven ≡ batch_of 1 0 ((7, 7) ∷ (8, 8) ∷ (9, 9) ∷ []) ∷ batch_of 1 1 ((10, 10) ∷ (11, 11) ∷ (12, 12) ∷ []) ∷ batch_of 1 2
    ((13, 13) ∷ []) ∷ end_of 1 3 ∷ []
unfolding seven
by_three = refl

by_seven : script 1 7 seven ≡ batch_of 1 0 seven ∷ end_of 1 1 ∷ []
unfolding seven
by_seven = refl

of_nothing : script 1 3 [] ≡ end_of 1 0 ∷ []
of_nothing = refl
