-- A script, as it is sent piece by piece.
use Rattle.std.proofs.Common.{◌≡◌, ℕ, ◌+◌, ◌-◌, ◌*◌, ◌/◌, ◌<◌, ◌≤◌, min, List, [], ◌∷◌, ◌++◌, length, map, take, drop, refl, sym, ap, ◌∙◌, arith, inl, inr}
use Rattle.std.proofs.Common.{append_assoc, length-drop}
use Rattle.std.proofs.lemmas.Bool.{cases_lt}
use Rattle.std.proofs.lemmas.List.{take_min, take_at, drop_at, drop_min, drop-drop, take-append-le, take-append-drop}
use Rattle.std.proofs.lemmas.List.FromFn.{map-range_with_len_more, take-map-range_with_len, length-map-range_with_len}
use Rattle.std.proofs.lemmas.Nat.{div-add-mod', div_below, le-div}
use Rattle.std.proofs.Math.Nat.{mod-lt}
use Rattle.std.proofs.lemmas.List.{map-append}
use mathlib.Core.List.{IsPrefix}
use Rattle.deliver_core.specs.declared.message.Message.{Message}
use Rattle.deliver_core.specs.declared.port.Port.{Port}
use Rattle.deliver_core.specs.Ports.{sent_by}
use Rattle.deliver_core.specs.Scripts.{Content, content_of, batch_of, end_of, batches_for, piece_of, script_batches, script}
use Rattle.parallel_core.specs.Sending.{said_by, Says, SaysPart}

quotient : (n k m : ℕ) → 0 < k → m * k ≤ n → n < (m + 1) * k → n / k ≡ m
quotient n k m some low high = let least = le-div m n k some low in let most = div_below n k (m + 1) some high in omega (arith, least, most)

-- of nothing there is no batch, and one batch fewer is left of a row once a piece has come off
pub no_batches : (size : ℕ) (rest : List (ℕ × ℕ)) → 0 < size → length rest ≡ 0 → batches_for size rest ≡ 0
no_batches size rest some none = quotient (length rest + (size - 1)) size 0 some (omega arith) (omega arith)

one_fewer : (size n q : ℕ) → 0 < size → 0 < n → q ≡ (n - size + (size - 1)) / size → (n + (size - 1)) / size ≡ q + 1
one_fewer size n q some left is =
    let whole = div-add-mod' (n - size + (size - 1)) size in
    let part = mod-lt (n - size + (size - 1)) some in
    elim (cases_lt n size) [
      | inl short ↦
          let below = div_below (n - size + (size - 1)) size 1 some (omega arith) in
          let zero : q ≡ 0 = omega (arith, is, below) in
          rw zero (quotient (n + (size - 1)) size 1 some (omega arith) (omega arith))
      | inr long ↦
          let product : q * size ≡ (n - size + (size - 1)) / size * size = ap (λ k. k * size) is in
          quotient (n + (size - 1)) size (q + 1) some (omega (arith, whole, product)) (omega (arith, whole, part, product))
    ]

pub batches-drop : (size : ℕ) (rest : List (ℕ × ℕ)) → 0 < size → 0 < length rest → batches_for size (drop size rest) + 1 ≡ batches_for size rest
batches-drop size rest some left =
    sym (one_fewer size (length rest) (batches_for size (drop size rest)) some left (ap (λ n. (n + (size - 1)) / size) (length-drop size rest)))

-- the first piece, of at most this size, and the rest
front_is : (size : ℕ) (xs front rest : List (ℕ × ℕ)) → xs ≡ front ++ rest → length front ≡ min size (length xs) → front ≡ take size xs
front_is size xs front rest parts long =
    sym
    (sym (take_min size xs) ∙ ap (λ n. take n xs) (sym long) ∙ ap (take (length front)) parts ∙ take_at front rest (length front) refl)

rest_is : (size : ℕ) (xs front rest : List (ℕ × ℕ)) → xs ≡ front ++ rest → length front ≡ min size (length xs) → rest ≡ drop size xs
rest_is size xs front rest parts long =
    sym
    (sym (drop_min size xs) ∙ ap (λ n. drop n xs) (sym long) ∙ ap (drop (length front)) parts ∙ drop_at front rest (length front) refl)

-- the rest of a row after a number of pieces, the number of batches left of it, and the next piece
pub record AfterPiece (size number : ℕ) (row piece rest : List (ℕ × ℕ)) : Type 0 where
  pub rest_is : rest ≡ drop ((number + 1) * size) row
  pub left : number + 1 + batches_for size rest ≡ batches_for size row
  pub piece_is : piece ≡ piece_of size row number

pub after_piece : (size number : ℕ) (row before piece rest : List (ℕ × ℕ)) → 0 < size
    → before ≡ drop (number * size) row → number + batches_for size before ≡ batches_for size row
    → before ≡ piece ++ rest → length piece ≡ min size (length before) → 0 < length before
    → AfterPiece size number row piece rest
after_piece size number row before piece rest some was left parts long more =
    let dropped = rest_is size before piece rest parts long in
    let fewer : batches_for size rest + 1 ≡ batches_for size before = ap (λ l. batches_for size l + 1) dropped ∙ batches-drop size before some more in
    let next : number * size + size ≡ (number + 1) * size = omega arith in
    record {
      rest_is = dropped ∙ ap (drop size) was ∙ drop-drop size (number * size) row ∙ ap (λ n. drop n row) next;
      left = omega (arith, fewer, left);
      piece_is = front_is size before piece rest parts long ∙ ap (take size) was;
    }

-- the contents that a port has sent, after more of them
pub says_more : (a b c : Port) (first second : List Content) → Says a b first → Says b c second → Says a c (first ++ second)
says_more a b c first second one two = two ∙ ap (λ l. l ++ second) one ∙ append_assoc _ first second

pub script_batches-more : (task size : ℕ) (row : List (ℕ × ℕ)) (count : ℕ)
    → script_batches task size row count ++ batch_of task count (piece_of size row count) ∷ [] ≡ script_batches task size row (count + 1)
script_batches-more task size row count =
    sym (map-range_with_len_more (λ number. batch_of task number (piece_of size row number)) 0 count count (omega arith))

-- a port that has sent one message more has said it
pub says_one : (old new : Port) (message : Message) → sent_by new ≡ sent_by old ++ message ∷ [] → Says old new (content_of message ∷ [])
says_one old new message sent = ap (map content_of) sent ∙ map-append content_of (sent_by old) (message ∷ [])

pub says_batch : (a b c : Port) (task size : ℕ) (row : List (ℕ × ℕ)) (number : ℕ) (piece : List (ℕ × ℕ)) → piece ≡ piece_of size row number
    → Says a b (script_batches task size row number) → Says b c (batch_of task number piece ∷ [])
    → Says a c (script_batches task size row (number + 1))
says_batch a b c task size row number piece is so_far next =
    says_more a b c _ _ so_far next
    ∙ ap (λ p. said_by a ++ (script_batches task size row number ++ batch_of task number p ∷ [])) is
    ∙ ap (λ l. said_by a ++ l) (script_batches-more task size row number)

pub says_script : (a b c : Port) (task size : ℕ) (row : List (ℕ × ℕ)) (number : ℕ) → number ≡ batches_for size row
    → Says a b (script_batches task size row number) → Says b c (end_of task number ∷ [])
    → Says a c (script task size row)
says_script a b c task size row number all so_far next =
    says_more a b c _ _ so_far next ∙ ap (λ n. said_by a ++ (script_batches task size row n ++ end_of task n ∷ [])) all

-- the first batches are a beginning of the script
pub script_batches-prefix : (task size : ℕ) (row : List (ℕ × ℕ)) (count : ℕ) → count ≤ batches_for size row
    → IsPrefix (script_batches task size row count) (script task size row)
script_batches-prefix task size row count few =
    let batch = λ (number : ℕ). batch_of task number (piece_of size row number) in
    let all = batches_for size row in
    let whole = script task size row in
    let long : count ≤ length (script_batches task size row all) = omega (arith, length-map-range_with_len batch 0 all) in
    let front : take count whole ≡ script_batches task size row count =
    take-append-le count (script_batches task size row all) (end_of task all ∷ []) long ∙ take-map-range_with_len batch 0 all count few in
    (drop count whole, ap (λ l. l ++ drop count whole) (sym front) ∙ take-append-drop count whole)

pub says_part : (a b : Port) (task size : ℕ) (row rest : List (ℕ × ℕ)) (number : ℕ) → number + batches_for size rest ≡ batches_for size row
    → Says a b (script_batches task size row number) → SaysPart a b (script task size row)
says_part a b task size row rest number left so_far =
    (script_batches task size row number, script_batches-prefix task size row number (omega (arith, left)), so_far)
