-- The records of all pairs are those of their chunks, one after another.
use Rattle.std.proofs.Common.{◌≡◌, ℕ, zero, suc, ◌+◌, ◌*◌, ◌/◌, ◌%◌, ◌<◌, ◌≤◌, min, List, [], ◌∷◌, ◌++◌, Option, Result, Ok, Err}
use Rattle.std.proofs.Common.{IsOk, IfOk, refl, sym, ap, subst, ◌∙◌, arith}
use Rattle.std.proofs.Common.{map, length, length-append, get_or, take, suc-mul, add-one, zero-mul, add-mul, one-mul, div-add-mod', ⊎_elim, All}
use Rattle.std.proofs.Common.{mul_comm, mul-le-mul_right, lt_of_mul-lt-mul_right}
use Rattle.std.specs.Global.{Global}
use Rattle.std.specs.Fork.{slice_chunk, IsChunk}
use Rattle.std.specs.Int.{div_ceil}
use Rattle.std.specs.List.{AllZip, flat_map}
use Rattle.std.specs.declared.alloc.AllocError.{AllocError}
use Rattle.std.specs.declared.vec.Vec.{Vec}
use Rattle.std.proofs.lemmas.Bool.{cases_lt}
use Rattle.std.proofs.lemmas.Grind.{div_ceil_times}
use Rattle.std.proofs.lemmas.Nat.{mod_below}
use Rattle.std.proofs.lemmas.List.{take_all, take-take, drop-take, take-append-drop, take_more, flat_map_more}
use Rattle.std.proofs.lemmas.List.Concat.{flat_map-append}
use Rattle.layer_core.specs.Layers.{Contents}
use Rattle.csv.specs.Writing.{row_text, default_writer}
use Rattle.report_core.specs.declared.columns.Columns.{Columns}
use Rattle.report_core.specs.Columns.{AreColumnsFor}
use Rattle.report_core.specs.ReportRows.{AreRows, AddsRows, IsRowOf, header_line, text_or_none}
use Rattle.report_core.specs.Reports.{IsReportBy}
use Rattle.report_core.specs.Written.{joined}
use Rattle.report_core.proofs.ReportLemmas.{report_pushed}

zip_append : {A B : Type 0} (R : A → B → Type 0) (xs : List A) (ys : List B) (vs : List A) (ws : List B)
    → AllZip R xs ys → AllZip R vs ws → AllZip R (xs ++ vs) (ys ++ ws)
zip_append R [] [] vs ws h k = k
zip_append R [] (y ∷ ys) vs ws h k = absurd h
zip_append R (x ∷ xs) [] vs ws h k = absurd h
zip_append R (x ∷ xs) (y ∷ ys) vs ws h k = (h.0, zip_append R xs ys vs ws h.1 k)

-- the records of some items, and then those of others
pub rows_append : {A : Type 0} (R : A → List (List ℕ) → Type 0) (ps qs : List A) (s t : List ℕ)
    → AreRows R ps s → AreRows R qs t → AreRows R (ps ++ qs) (s ++ t)
rows_append R ps qs s t a b = record {
  rows = a.rows ++ b.rows;
  are_rows = zip_append R ps a.rows qs b.rows a.are_rows b.are_rows;
  written = ap (λ x. x ++ t) a.written ∙ ap (λ x. flat_map (row_text default_writer) a.rows ++ x) b.written
      ∙ sym (flat_map-append (row_text default_writer) a.rows b.rows);
}

-- this number of chunks leaves no element out
covered : (count len size : ℕ) → 0 < size → count ≡ len / size + min 1 (len % size) → len ≤ count * size
covered count len size p is =
    let q = len / size in
    let whole : q * size + len % size ≡ len = div-add-mod' len size in
    let short : len % size < size = mod_below len size p in
    ⊎_elim
    (λ h. let e : count ≡ q + 1 = omega arith in let w = ap (λ n. n * size) e ∙ add-mul q 1 size in let o = one-mul size in omega arith)
    (λ h. let e : count ≡ q = omega arith in let w = ap (λ n. n * size) e in omega arith)
    (cases_lt 0 (len % size))

-- as many chunks of a share or more as there are shares, at most
few_parts : (count len size share shares : ℕ) → count * size < len + size → len ≤ share * shares → share ≤ size → count ≤ shares
few_parts count len size share shares over within large =
    let all : share * shares ≤ size * shares = mul-le-mul_right shares large in
    let turned = mul_comm size shares in
    let more = add-mul shares 1 size in
    let single = one-mul size in
    let below : count * size < (shares + 1) * size = omega arith in
    let less : count < shares + 1 = lt_of_mul-lt-mul_right size below in
    omega arith

pub few_chunks : (len size workers : ℕ) → 0 < workers → 0 < size → div_ceil len workers ≤ size → div_ceil len size ≤ workers
few_chunks len size workers some sized large =
    few_parts (div_ceil len size) len size (div_ceil len workers) workers (div_ceil_times len size sized).1 (div_ceil_times len workers some).0 large

-- the elements before a chunk, and the chunk
next_chunk : {X : Type 0} (xs : List X) (size n : ℕ) → take (n * size) xs ++ slice_chunk xs size n ≡ take (n * size + size) xs
next_chunk xs size n =
    let ys = take (n * size + size) xs in
    ap (λ z. z ++ slice_chunk xs size n) (sym (take-take (n * size) (n * size + size) xs (omega arith)))
    ∙ ap (λ z. take (n * size) ys ++ z) (sym (drop-take (n * size) size xs))
    ∙ take-append-drop (n * size) ys

-- no records yet
pub no_rows : {A : Type 0} (R : A → List (List ℕ) → Type 0) → AreRows R [] []
no_rows R = record { rows = []; are_rows = tt; written = refl }

-- a fact of items and their text that holds of concatenated ones
module _ {X : Type 0} (Written : List X → List ℕ → Type 0) (nothing : Written [] [])
    (joins : (ps qs : List X) (s t : List ℕ) → Written ps s → Written qs t → Written (ps ++ qs) (s ++ t))
    (size : ℕ) (items : List X) (parts : List (Result (Vec ℕ Global) AllocError)) (d : Result (Vec ℕ Global) AllocError)
    (each : (n : ℕ) → n < length parts → Written (slice_chunk items size n) (text_or_none (get_or parts n d))) where
  -- the first chunks
  so_far : (n : ℕ) → n ≤ length parts → Written (take (n * size) items) (flat_map text_or_none (take n parts))
  so_far zero l = subst (λ k. Written (take k items) []) (sym (zero-mul size)) nothing
  so_far (suc n) l =
      subst (λ ps. Written ps (flat_map text_or_none (take (suc n) parts))) (next_chunk items size n ∙ ap (λ k. take k items) (sym (suc-mul n size)))
      (subst (Written (take (n * size) items ++ slice_chunk items size n))
      (flat_map_more text_or_none [] (take n parts) (get_or parts n d)
      ∙ ap (flat_map text_or_none) (sym (take_more parts n d (omega arith)) ∙ ap (λ k. take k parts) (add-one n)))
      (joins (take (n * size) items) (slice_chunk items size n) (flat_map text_or_none (take n parts)) (text_or_none (get_or parts n d))
      (so_far n (omega arith)) (each n (omega arith))))

  -- the texts of all chunks are those of all items
  pub chunks_joined : 0 < size → length parts ≡ length items / size + min 1 (length items % size) → Written items (flat_map text_or_none parts)
  chunks_joined p e =
      subst (λ ps. Written ps (flat_map text_or_none parts)) (take_all (length parts * size) items (covered (length parts) (length items) size p e))
      (subst (λ ts. Written (take (length parts * size) items) (flat_map text_or_none ts)) (take_all (length parts) parts (omega arith))
      (so_far (length parts) (omega arith)))

-- a fact of all elements is one of those of a chunk
pub all_of_chunk : {X : Type 0} (P : X → Type 0) (xs ys : List X) (size start : ℕ) → IsChunk xs size start ys → All P xs → All P ys
all_of_chunk P xs ys size start is all = λ k d l. subst P (sym (is.elements k d l)) (all (start + k) d (omega (arith, is.in_bounds)))

-- columns for some matches are columns for a chunk of them
pub columns_of_chunk : {G A : Type 0} (pair_of : A → ℕ × ℕ) (columns : Columns) (left right : Contents G) (matches chunk : List A) (size start : ℕ)
    → IsChunk matches size start chunk → AreColumnsFor pair_of left right matches columns → AreColumnsFor pair_of left right chunk columns
columns_of_chunk {A = A} pair_of columns left right matches chunk size start is are = record {
  left_column = are.left_column;
  right_column = are.right_column;
  left_within = all_of_chunk (λ (a : A). (pair_of a).0 + 1 < length columns.left.starts.items) matches chunk size start is are.left_within;
  right_within = all_of_chunk (λ (a : A). (pair_of a).1 + 1 < length columns.right.starts.items) matches chunk size start is are.right_within;
}

-- the result of a thread for a chunk
pub chunk_written : {X : Type 0} (Written : List X → List ℕ → Type 0) (items chunk : List X) (size n : ℕ) (part : Result (Vec ℕ Global) AllocError)
    → IsChunk items size (n * size) chunk → IsOk part
    → IfOk part (λ text. Written chunk text.items)
    → Written (slice_chunk items size n) (text_or_none part)
chunk_written Written items chunk size n (Ok text) is ok rows =
    subst (λ ps. Written ps text.items) is.value rows
chunk_written Written items chunk size n (Err e) is ok rows = absurd cc

-- one text more
pub text_added : (old mid new : List (Vec ℕ Global)) (parts : List (Result (Vec ℕ Global) AllocError)) (part : Result (Vec ℕ Global) AllocError)
    (text : Vec ℕ Global) → joined mid ≡ joined old ++ flat_map text_or_none parts → new ≡ mid ++ text ∷ [] → part ≡ Ok text
    → joined new ≡ joined old ++ flat_map text_or_none (parts ++ part ∷ [])
text_added old mid new parts part text so_far grown is =
    ap joined grown ∙ sym (flat_map_more (λ t. t.items) [] mid text) ∙ ap (λ ts. ts ++ text.items) so_far
    ∙ ap (λ ts. (joined old ++ flat_map text_or_none parts) ++ ts) (sym (ap text_or_none is)) ∙ flat_map_more text_or_none (joined old) parts part

-- one element more of each of two lists
pub one_more : {A B : Type 0} (n : ℕ) (old new : List A) (x : A) (parts : List B) (part : B) → length old ≡ n + length parts → new ≡ old ++ x ∷ []
    → length new ≡ n + length (parts ++ part ∷ [])
one_more n old new x parts part so_far grown =
    rw grown (simp length-append (omega arith))

-- the header, and then the records of all chunks
chunks_added : {A : Type 0} (R : A → List (List ℕ) → Type 0) (items : List A) (old mid new : List (Vec ℕ Global)) (header : Vec ℕ Global) (line : List ℕ)
    (parts : List (Result (Vec ℕ Global) AllocError)) → mid ≡ old ++ header ∷ [] → header.items ≡ line → AreRows R items (flat_map text_or_none parts)
    → joined new ≡ joined mid ++ flat_map text_or_none parts → AddsRows R items (joined old ++ line) (joined new)
chunks_added R items old mid new header line parts grown is rows all = record {
  text = flat_map text_or_none parts;
  are_rows = rows;
  added = all ∙ ap (λ ts. ts ++ flat_map text_or_none parts)
      (ap joined grown ∙ sym (flat_map_more (λ t. t.items) [] old header) ∙ ap (λ l. joined old ++ l) is);
}

-- the header alone, and then the records of all chunks, are the report
pub report_of_chunks : {G A : Type 0} (pair_of : A → ℕ × ℕ) (name : Option (List ℕ)) (is_field : G → G → List ℕ → Type 0) (left right : Contents G) (matches : List A)
    (old mid new : List (Vec ℕ Global)) (header : Vec ℕ Global)
    (parts : List (Result (Vec ℕ Global) AllocError)) → old ≡ [] → mid ≡ old ++ header ∷ [] → header.items ≡ header_line name
    → (All IsOk parts → AreRows (IsRowOf pair_of name is_field left right) matches (flat_map text_or_none parts)) → All IsOk parts
    → joined new ≡ joined mid ++ flat_map text_or_none parts
    → IsReportBy name is_field left right (map pair_of matches) (joined new)
report_of_chunks pair_of name is_field left right matches old mid new header parts none grown is rows ok all =
    report_pushed pair_of name is_field left right matches old new none
    (chunks_added (IsRowOf pair_of name is_field left right) matches old mid new header (header_line name) parts grown is (rows ok) all)

-- the value that is used for texts past the last one
pub no_text : Result (Vec ℕ Global) AllocError
no_text = Err (record {})

-- two facts of a result imply a third
pub from_both : {T E : Type 0} (r : Result T E) (P Q S : T → Type 0) → IfOk r P → IfOk r Q → ((t : T) → P t → Q t → S t) → IfOk r S
from_both (Ok t) P Q S p q s = s t p q
from_both (Err e) P Q S p q s = tt
