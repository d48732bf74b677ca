-- The rows of matches, one after another, and chunk by chunk.
use Rattle.std.proofs.Common.{◌≡◌, ℕ, zero, suc, ◌+◌, ◌*◌, ◌/◌, ◌%◌, ◌<◌, ◌≤◌, min, List, [], ◌∷◌, ◌++◌, Result, Ok, Err, IsOk, IfOk, map, length, get_or, take, refl, sym, ap, subst, ◌∙◌, arith}
use Rattle.std.proofs.Common.{suc-mul, add-one, zero-mul, add-mul, one-mul, div-add-mod', ⊎_elim}
use Rattle.std.specs.Prelude.{All, Contains, Option, None, Some, option_map}
use Rattle.std.specs.Borrow.{Bor}
use Rattle.std.specs.Global.{Global}
use Rattle.std.specs.Fork.{slice_chunk, IsChunk}
use Rattle.std.specs.List.{AllZip, flat_map}
use Rattle.std.specs.declared.alloc.AllocError.{AllocError}
use Rattle.std.specs.declared.vec.Vec.{Vec}
use Rattle.std.proofs.lemmas.Bool.{cases_lt}
use Rattle.std.proofs.lemmas.Nat.{mod_below}
use Rattle.std.proofs.lemmas.List.{append-nil, take_all, take-take, drop-take, take-append-drop, take_more, flat_map_more, get_or_default}
use Rattle.std.proofs.lemmas.List.Elements.{All-contains_itself, All-head, All-tail, All-weaker}
use Rattle.std.proofs.lemmas.List.Concat.{flat_map-append}
use Rattle.plane_core.specs.Points.{Point}
use Rattle.layer_core.specs.Layers.{Feature, Contents, IsLayer, with_number, ShapeIs}
use Rattle.filter_core.proofs.NumberLemmas.{held_by_number, listed_by_number}
use Rattle.refine_core.specs.declared.refined.Refined.{Refined}
use Rattle.nearest_core.specs.declared.neighbour.Neighbour.{Neighbour}
use Rattle.distance_core.specs.declared.query.Query.{Query}
use Rattle.nearest_core.specs.Matches.{AddsRow, AreMatches, AreMatchesOf, AreRows, IsNumberRow, IsRowOf, feature_numbers, matches_or_none, paired}
use Rattle.nearest_core.specs.Nearest.{AreNearestIn}

zip_append : {A B : Type 0} (R : A → B → Type 0) (xs : List A) (ys : List B) (vs : List A) (ws : List B)
    → AllZip R xs ys → AllZip R vs ws → AllZip R (xs ++ vs) (ys ++ ws)
zip_append R [] [] vs ws h k = k
zip_append R [] (y ∷ ys) vs ws h k = absurd h
zip_append R (x ∷ xs) [] vs ws h k = absurd h
zip_append R (x ∷ xs) (y ∷ ys) vs ws h k = (h.0, zip_append R xs ys vs ws h.1 k)

pub rows_none : {A M : Type 0} (R : A → List M → Type 0) → AreRows R [] []
rows_none R = record { rows = []; are_rows = tt; joined = refl }

-- the rows of some items, and then those of others
rows_append : {A M : Type 0} (R : A → List M → Type 0) (xs ys : List A) (a b : List M) → AreRows R xs a → AreRows R ys b
    → AreRows R (xs ++ ys) (a ++ b)
rows_append {M = M} R xs ys a b h k = record {
  rows = h.rows ++ k.rows;
  are_rows = zip_append R xs h.rows ys k.rows h.are_rows k.are_rows;
  joined = ap (λ ms. ms ++ b) h.joined ∙ ap (λ ms. flat_map (λ (row : List M). row) h.rows ++ ms) k.joined
      ∙ sym (flat_map-append (λ (row : List M). row) h.rows k.rows);
}

-- the row of one more item
pub rows_more : {A M : Type 0} (R : A → List M → Type 0) (xs : List A) (i : ℕ) (x : A) (a row : List M) → i < length xs → x ≡ get_or xs i x
    → AreRows R (take i xs) a → R x row → AreRows R (take (i + 1) xs) (a ++ row)
rows_more {A} {M} R xs i x a row within at h is =
    subst (λ (ys : List A). AreRows R ys (a ++ row)) (ap (λ (y : A). take i xs ++ y ∷ []) at ∙ sym (take_more xs i x within))
    (rows_append R (take i xs) (x ∷ []) a row h (record { rows = row ∷ []; are_rows = (is, tt); joined = sym (append-nil row) }))

module _ {G S : Type 0} (fraction : S → ℕ × ℕ) (has_point : G → Point → Type 0) (query : Query) (right left : Contents G) where
  -- no feature has the number
  pub no_row : (number : ℕ) (old : List (Refined S)) → ShapeIs {G = G} None (with_number number left) → AddsRow fraction has_point query right left number old old
  no_row number old none = record {
    row = [];
    grown = sym (append-nil old);
    is = λ f held.
        let bad : None ≡ Some f.shape = subst (λ (t : Option (Feature G)). None ≡ option_map (λ h. h.shape) t) held none in
        absurd cc;
  }

  -- the row of the feature that has the number
  one_row : (number : ℕ) (old new : List (Refined S)) (b : Bor G) (found seen : List (Neighbour S))
      → ShapeIs (Some b) (with_number number left) → AreNearestIn fraction has_point query right b.now found → seen ≡ found → new ≡ old ++ map (paired number) seen
      → (f : Feature G) → with_number number left ≡ Some f → f.number ≡ number → IsRowOf fraction has_point query right f (map (paired number) seen)
  one_row number old new b found seen is nearest same grown f held number_is =
      let shapes : Some b.now ≡ Some f.shape = subst (λ (t : Option (Feature G)). Some b.now ≡ option_map (λ h. h.shape) t) held is in
      let shape : b.now ≡ f.shape = cc in
      record {
        found = seen;
        nearest = subst (λ (g : G). AreNearestIn fraction has_point query right g seen) shape
            (subst (AreNearestIn fraction has_point query right b.now) (sym same) nearest);
        pairs = ap (λ (k : ℕ). map (paired k) seen) (sym number_is);
      }

  pub row_added : (number : ℕ) (old new : List (Refined S)) (b : Bor G) (found seen : List (Neighbour S))
      → ShapeIs (Some b) (with_number number left) → AreNearestIn fraction has_point query right b.now found → seen ≡ found → new ≡ old ++ map (paired number) seen
      → AddsRow fraction has_point query right left number old new
  row_added number old new b found seen is nearest same grown = record {
    row = map (paired number) seen;
    grown = grown;
    is = λ f held. one_row number old new b found seen is nearest same grown f held (listed_by_number left.features number f held).1;
  }

  -- the matches of one more left feature
  pub matches_more : (numbers : List ℕ) (i d : ℕ) (old new : List (Refined S)) → i < length numbers
      → AreMatchesOf fraction has_point query right left (take i numbers) old → AddsRow fraction has_point query right left (get_or numbers i d) old new
      → AreMatchesOf fraction has_point query right left (take (i + 1) numbers) new
  matches_more numbers i d old new within so_far adds =
      let number = get_or numbers i d in
      subst (AreMatchesOf fraction has_point query right left (take (i + 1) numbers)) (sym adds.grown)
      (rows_more (IsNumberRow fraction has_point query right left) numbers i number old adds.row within (sym (get_or_default numbers i number d within)) so_far adds.is)

  by_numbers : (fs : List (Feature G)) (rows : List (List (Refined S))) → All (λ f. with_number f.number left ≡ Some f) fs
      → AllZip (IsNumberRow fraction has_point query right left) (map (λ f. f.number) fs) rows → AllZip (IsRowOf fraction has_point query right) fs rows
  by_numbers [] [] held h = tt
  by_numbers [] (r ∷ rs) held h = absurd h
  by_numbers (f ∷ fs) [] held h = absurd h
  by_numbers (f ∷ fs) (r ∷ rs) held h = (
    h.0 f (All-head (λ x. with_number x.number left ≡ Some x) f fs held),
    by_numbers fs rs (All-tail (λ x. with_number x.number left ≡ Some x) f fs held) h.1,
  )

  -- the matches of a layer's numbers are those of its features
  pub of_features : (is : IsLayer left) (numbers : List ℕ) (matches : List (Refined S)) → numbers ≡ feature_numbers left
      → AreMatchesOf fraction has_point query right left numbers matches → AreMatches fraction has_point query right left.features matches
  of_features is numbers matches are h = record {
    rows = h.rows;
    are_rows = by_numbers left.features h.rows
        (All-weaker (Contains left.features) (λ f. with_number f.number left ≡ Some f) (λ f c. held_by_number left.features f is.rising c)
        left.features (All-contains_itself left.features))
        (subst (λ (ns : List ℕ). AllZip (IsNumberRow fraction has_point query right left) ns h.rows) are h.are_rows);
    joined = h.joined;
  }

-- this number of chunks leaves no element out
covered : (count len size : ℕ) → 0 < size → count ≡ len / size + min 1 (len % size) → len ≤ count * size
covered count len size p is =
    let q = len / size in
    let whole : q * size + len % size ≡ len = div-add-mod' len size in
    let short : len % size < size = mod_below len size p in
    ⊎_elim
    (λ h. let e : count ≡ q + 1 = omega arith in let w = ap (λ n. n * size) e ∙ add-mul q 1 size in let o = one-mul size in omega arith)
    (λ h. let e : count ≡ q = omega arith in let w = ap (λ n. n * size) e in omega arith)
    (cases_lt 0 (len % size))

-- the elements before a chunk, and the chunk
next_chunk : {X : Type 0} (xs : List X) (size n : ℕ) → take (n * size) xs ++ slice_chunk xs size n ≡ take (n * size + size) xs
next_chunk xs size n =
    let ys = take (n * size + size) xs in
    ap (λ z. z ++ slice_chunk xs size n) (sym (take-take (n * size) (n * size + size) xs (omega arith)))
    ∙ ap (λ z. take (n * size) ys ++ z) (sym (drop-take (n * size) size xs))
    ∙ take-append-drop (n * size) ys

-- the value that is used for results past the last one
pub no_part : {M : Type 0} → Result (Vec M Global) AllocError
no_part = Err (record {})

module _ {A M : Type 0} (R : A → List M → Type 0) (size : ℕ) (items : List A) (parts : List (Result (Vec M Global) AllocError))
    (d : Result (Vec M Global) AllocError)
    (each : (n : ℕ) → n < length parts → AreRows R (slice_chunk items size n) (matches_or_none (get_or parts n d))) where
  -- the first chunks
  so_far : (n : ℕ) → n ≤ length parts → AreRows R (take (n * size) items) (flat_map matches_or_none (take n parts))
  so_far zero l = subst (λ k. AreRows R (take k items) []) (sym (zero-mul size)) (rows_none R)
  so_far (suc n) l =
      subst (λ xs. AreRows R xs (flat_map matches_or_none (take (suc n) parts))) (next_chunk items size n ∙ ap (λ k. take k items) (sym (suc-mul n size)))
      (subst (AreRows R (take (n * size) items ++ slice_chunk items size n))
      (flat_map_more matches_or_none [] (take n parts) (get_or parts n d)
      ∙ ap (flat_map matches_or_none) (sym (take_more parts n d (omega arith)) ∙ ap (λ k. take k parts) (add-one n)))
      (rows_append R (take (n * size) items) (slice_chunk items size n) (flat_map matches_or_none (take n parts)) (matches_or_none (get_or parts n d))
      (so_far n (omega arith)) (each n (omega arith))))

  -- the matches of all chunks are those of all items
  pub chunks_joined : 0 < size → length parts ≡ length items / size + min 1 (length items % size) → AreRows R items (flat_map matches_or_none parts)
  chunks_joined p e =
      subst (λ xs. AreRows R xs (flat_map matches_or_none parts)) (take_all (length parts * size) items (covered (length parts) (length items) size p e))
      (subst (λ ts. AreRows R (take (length parts * size) items) (flat_map matches_or_none ts)) (take_all (length parts) parts (omega arith))
      (so_far (length parts) (omega arith)))

-- the result of a thread for a chunk
pub chunk_matched : {A M : Type 0} (R : A → List M → Type 0) (items chunk : List A) (size n : ℕ) (part : Result (Vec M Global) AllocError)
    → IsChunk items size (n * size) chunk → IsOk part
    → IfOk part (λ matches. AreRows R chunk matches.items)
    → AreRows R (slice_chunk items size n) (matches_or_none part)
chunk_matched R items chunk size n (Ok matches) is ok rows =
    subst (λ xs. AreRows R xs matches.items) is.value rows
chunk_matched R items chunk size n (Err e) is ok rows = absurd cc

-- two facts of a result imply a third
pub from_both : {T E : Type 0} (r : Result T E) (P Q S : T → Type 0) → IfOk r P → IfOk r Q → ((t : T) → P t → Q t → S t) → IfOk r S
from_both (Ok t) P Q S p q s = s t p q
from_both (Err e) P Q S p q s = tt

pub if_ok : {T E : Type 0} (r : Result T E) (P Q : T → Type 0) → ((t : T) → P t → Q t) → IfOk r P → IfOk r Q
if_ok (Ok t) P Q f p = f t p
if_ok (Err e) P Q f p = tt

-- the matches of one chunk more
pub part_added : {M : Type 0} (old new : List M) (parts : List (Result (Vec M Global) AllocError)) (part : Result (Vec M Global) AllocError)
    (matches : Vec M Global) → old ≡ flat_map matches_or_none parts → new ≡ old ++ matches.items → part ≡ Ok matches
    → new ≡ flat_map matches_or_none (parts ++ part ∷ [])
part_added old new parts part matches so_far grown is =
    grown ∙ ap (λ ms. ms ++ matches.items) so_far ∙ ap (λ ms. flat_map matches_or_none parts ++ ms) (sym (ap matches_or_none is))
    ∙ flat_map_more matches_or_none [] parts part
