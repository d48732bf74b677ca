-- Ids in ascending order, and the others after them: the result of a search, and the effect of an
-- insertion.
use Rattle.std.proofs.Common.{◌≡◌, ◌≢◌, ℕ, zero, suc, ◌+◌, ◌-◌, ◌<◌, Bool, true, false, cond, not, nat_lt, List, [], ◌∷◌, ◌++◌, set, get_or, length, slice_get, position}
use Rattle.std.proofs.Common.{Option, Some, None, Result, Ok, Err, IsTrue, take, drop, refl, sym, ap, ◌∙◌, arith, add-one, append_assoc}
use Rattle.std.specs.Cmp.{IsTotalOrder, IsEquivalence, on_equiv}
use Rattle.std.specs.Cmp.Lexicographic.{slice_cmp, nat_list_cmp_total, nat_list_eq_equiv, texts_ties}
use Rattle.std.specs.List.{IsDistinct, AllByRecursion, list_any, position_or_len}
use Rattle.std.specs.List.Sorted.{IsStrictlySortedBy, IsSortedBy, IsBinarySearchResult, IsSearchInRange}
use Rattle.std.specs.Map.{keys_of, lookup}
use Rattle.std.specs.Option.{option_map}
use Rattle.std.specs.Ordering.{is_eq, is_lt, nat_cmp, ordering_then}
use Rattle.std.specs.declared.cmp.Ordering.{Ordering}
use Rattle.std.specs.declared.cmp.Ordering.TheVariants.{Less, Equal, Greater}
use Rattle.std.specs.Result.{result_ok}
use Rattle.std.specs.Str.{bytes_eq}
use Rattle.std.proofs.lemmas.Cmp.{nat_cmp_total, on_total, then_total, tied_itself}
use Rattle.std.proofs.lemmas.Bool.Decides.{Decides-ltb}
use Rattle.std.proofs.Math.ListN.{get_or-append}
use Rattle.std.proofs.Math.Seq.{take-suc}
use Rattle.std.proofs.lemmas.List.{get_or-map, get_or_default, length-append, map-append, append-nil, take-append-drop}
use native.Mathlib.Decide.{dec_lt}
use Rattle.std.proofs.lemmas.List.Elements.{recursion_from_All}
use Rattle.std.proofs.lemmas.List.Sorted.{searchable_from_sorted}
use Rattle.std.proofs.lemmas.List.Sums.{position_or_len_is}
use Rattle.std.proofs.lemmas.Map.{NonePasses, none_passes_from_lookup}
use Rattle.std.proofs.lemmas.Map.Entries.{length-keys_of}
use Rattle.std.proofs.lemmas.Map.Keys.{Less-from_sorted, IsDistinct-push}
use Rattle.std.proofs.lemmas.Option.{slice_get-map, slice_get-get_or, slice_get_within, get_or_from_slice_get}
use Rattle.std.proofs.lemmas.Slice.Eq.{bytes_eq-Decides}
use Rattle.indexmap.specs.IndexMap.{set_value_at, insert_entry}
use Rattle.indexmap.proofs.MapLemmas.{Found, Missing, Found-position, Missing-position, insert_entry-absent, insert_entry-first}
use Rattle.layer_core.proofs.Lists.{get-within}
use Rattle.layer_edit_core.proofs.MapLemmas.{keys-set}
use Rattle.layer_core.specs.declared.id.Id.{Id}
use Rattle.layer_core.specs.Ids.{id_bytes, id_eq}
use Rattle.layer_edit_core.specs.RisingIds.{id_order, order_of, has_text, Rises, ComesAfter, AreApart, room_before}

id_order-total : IsTotalOrder id_order
id_order-total = then_total (on_total (λ id. length id) nat_cmp_total) nat_list_cmp_total

id_eq-laws : IsEquivalence id_eq
id_eq-laws = on_equiv (λ id. id_bytes id) nat_list_eq_equiv

then-equal : (o p : Ordering) → ordering_then o p ≡ Equal → p ≡ Equal
then-equal Less p h = cc
then-equal Equal p h = h
then-equal Greater p h = cc

-- texts that compare as equal are the same, and only those
same_from_equal : (a id : List ℕ) → id_order a id ≡ Equal → a ≡ id
same_from_equal a id h =
    (bytes_eq-Decides a id).0 (texts_ties a id ∙ ap is_eq (then-equal (nat_cmp (length a) (length id)) (slice_cmp nat_cmp a id) h))

differs_from_unequal : (a id : List ℕ) → id_order a id ≢ Equal → bytes_eq id a ≡ false
differs_from_unequal a id unequal = by (bytes_eq id a) refl
  where
    by : (t : Bool) → bytes_eq id a ≡ t → t ≡ false
    by true e = absurd (unequal (rw ((bytes_eq-Decides id a).0 e) (tied_itself id_order-total a)))
    by false e = refl

module _ {K : Type 0} (t : K → Bool) (ks : List K) where
  position_is : (i : ℕ) → position_or_len t ks ≡ i → i < length ks → position t ks ≡ Some i
  position_is i at within = rw (at, (Decides-ltb i (length ks)).1 within) refl

  position_none : position_or_len t ks ≡ length ks → position t ks ≡ None
  position_none at = rw at (by (nat_lt (length ks) (length ks)) refl)
    where
      by : (b : Bool) → nat_lt (length ks) (length ks) ≡ b → cond b (Some (length ks)) None ≡ None
      by true e = let below = (Decides-ltb (length ks) (length ks)).0 e in absurd (omega arith)
      by false e = refl

-- a list of which no item passes
none-len : {K : Type 0} (t : K → Bool) (ks : List K) → ((k : ℕ) (d : K) → k < length ks → t (get_or ks k d) ≡ false)
    → position_or_len t ks ≡ length ks
none-len t [] h = refl
none-len t (x ∷ xs) h =
    ap (λ b. cond (not b) (1 + position_or_len t xs) 0) (h 0 x (omega arith)) ∙ omega (arith, none-len t xs (λ k d within. h (suc k) d (omega arith)))

any-none : {K X : Type 0} (t : K → Bool) (es : List (K × X)) → NonePasses t es → list_any t (keys_of es) ≡ false
any-none t [] h = refl
any-none t (e ∷ es) h = rw h.0 (any-none t es h.1)

module _ {K X : Type 0} where
  -- no key passes if a search by keys found none
  none_from_position : (t : K → Bool) (es : List (K × X)) → position t (keys_of es) ≡ None → NonePasses t es
  none_from_position t es none = none_passes_from_lookup t es (Missing-position t es none).value

  -- a write by place in one of two lists
  pub set-sooner : (xs ys : List (K × X)) (i : ℕ) (w : X) → i < length xs → set_value_at (xs ++ ys) i w ≡ set_value_at xs i w ++ ys
  set-sooner [] ys i w h = absurd (omega arith)
  set-sooner (x ∷ xs) ys zero w h = refl
  set-sooner (x ∷ xs) ys (suc i) w h = ap (λ l. x ∷ l) (set-sooner xs ys i w (omega arith))

  pub set-later : (xs ys : List (K × X)) (i : ℕ) (w : X) → set_value_at (xs ++ ys) (length xs + i) w ≡ xs ++ set_value_at ys i w
  set-later [] ys i w = ap (λ n. set_value_at ys n w) (omega arith)
  set-later (x ∷ xs) ys i w =
      let next : suc (length xs) + i ≡ suc (length xs + i) = omega arith in
      ap (λ n. set_value_at (x ∷ xs ++ ys) n w) next ∙ ap (λ l. x ∷ l) (set-later xs ys i w)

  -- a write of a whole entry that keeps its key
  pub set-entry : (es : List (K × X)) (i : ℕ) (e : K × X) (w : X) → e ≡ get_or es i e → set es i (e.0, w) ≡ set_value_at es i w
  set-entry [] i e w is = refl
  set-entry (x ∷ es) zero e w is = ap (λ (y : K × X). (y.0, w) ∷ es) is
  set-entry (x ∷ es) (suc i) e w is = ap (λ l. x ∷ l) (set-entry es i e w is)

  -- the item at an index of two lists
  get-sooner : (xs ys : List (K × X)) (i : ℕ) → i < length xs → slice_get (xs ++ ys) i ≡ slice_get xs i
  get-sooner [] ys i h = absurd (omega arith)
  get-sooner (x ∷ xs) ys zero h = refl
  get-sooner (x ∷ xs) ys (suc i) h = get-sooner xs ys i (omega arith)

  both-len : (xs ys : List (K × X)) → length (keys_of (xs ++ ys)) ≡ length xs + length ys
  both-len xs ys = length-keys_of (xs ++ ys) ∙ length-append xs ys

  or_len-later : (t : K → Bool) (xs ys : List (K × X)) → NonePasses t xs
      → position_or_len t (keys_of (xs ++ ys)) ≡ length xs + position_or_len t (keys_of ys)
  or_len-later t [] ys h = omega arith
  or_len-later t (x ∷ xs) ys h =
      ap (λ b. cond (not b) (1 + position_or_len t (keys_of (xs ++ ys))) 0) h.0 ∙ omega (arith, or_len-later t xs ys h.1)

  or_len-sooner : (t : K → Bool) (xs ys : List (K × X)) → position_or_len t (keys_of xs) < length xs
      → position_or_len t (keys_of (xs ++ ys)) ≡ position_or_len t (keys_of xs)
  or_len-sooner t [] ys h = absurd (omega arith)
  or_len-sooner t (x ∷ xs) ys h = by (t x.0) refl (λ within. or_len-sooner t xs ys within)
    where
      by : (b : Bool) → t x.0 ≡ b
          → (position_or_len t (keys_of xs) < length xs → position_or_len t (keys_of (xs ++ ys)) ≡ position_or_len t (keys_of xs))
          → position_or_len t (keys_of (x ∷ xs ++ ys)) ≡ position_or_len t (keys_of (x ∷ xs))
      by true e later = rw e refl
      by false e later = rw e (ap (λ n. 1 + n) (later (let within = rw e at h in omega arith)))

  lookup-later : (t : K → Bool) (xs ys : List (K × X)) → NonePasses t xs → lookup t (xs ++ ys) ≡ lookup t ys
  lookup-later t [] ys h = refl
  lookup-later t (x ∷ xs) ys h = ap (λ b. cond b (Some x.1) (lookup t (xs ++ ys))) h.0 ∙ lookup-later t xs ys h.1

  -- a value of a key that only the second list can have
  pub lookup-missing : (t : K → Bool) (xs ys : List (K × X)) → position t (keys_of xs) ≡ None → lookup t (xs ++ ys) ≡ lookup t ys
  lookup-missing t xs ys none = lookup-later t xs ys (none_from_position t xs none)

  -- a key of the first list is found at its place
  pub position-sooner : (t : K → Bool) (xs ys : List (K × X)) (i : ℕ) → position t (keys_of xs) ≡ Some i → position t (keys_of (xs ++ ys)) ≡ Some i
  position-sooner t xs ys i at =
      let found = Found-position t xs i at in
      let within : position_or_len t (keys_of xs) < length xs = rw found.or_len found.within in
      position_is t (keys_of (xs ++ ys)) i (or_len-sooner t xs ys within ∙ found.or_len) (omega (arith, found.within, both-len xs ys))

  -- any other one after the places of the first list
  pub position-later : (t : K → Bool) (xs ys : List (K × X)) → position t (keys_of xs) ≡ None
      → position t (keys_of (xs ++ ys)) ≡ option_map (λ i. length xs + i) (position t (keys_of ys))
  position-later t xs ys none = by (position t (keys_of ys)) refl
    where
      len : position_or_len t (keys_of (xs ++ ys)) ≡ length xs + position_or_len t (keys_of ys)
      len = or_len-later t xs ys (none_from_position t xs none)

      by : (r : Option ℕ) → position t (keys_of ys) ≡ r → position t (keys_of (xs ++ ys)) ≡ option_map (λ i. length xs + i) r
      by None e = position_none t (keys_of (xs ++ ys)) (omega (arith, len, (Missing-position t ys e).or_len, both-len xs ys))
      by (Some i) e =
          let found = Found-position t ys i e in
          position_is t (keys_of (xs ++ ys)) (length xs + i) (omega (arith, len, found.or_len)) (omega (arith, found.within, both-len xs ys))

-- a list of ids that rises
module _ (es : List (Id × Option ℕ)) (rises : Rises es) where
  key_at : (i : ℕ) (d : Id × Option ℕ) → i < length es → get_or (keys_of es) i d.0 ≡ (get_or es i d).0
  key_at i d within = get_or-map (λ e. e.0) es i d d.0 within

  before : (i j : ℕ) (d : Id × Option ℕ) → i < j → j < length es → id_order (id_bytes (get_or es i d).0) (id_bytes (get_or es j d).0) ≡ Less
  before i j d below within =
      let keys = Less-from_sorted order_of (keys_of es) i j d.0 rises below (omega (arith, within, length-keys_of es)) in
      rw (key_at i d (omega (arith, below, within)), key_at j d within) at keys

  sorted : IsSortedBy (λ a b. is_lt (id_order (id_bytes a.0) (id_bytes b.0))) es
  sorted k d low high =
      rw (id_order-total.antisymm (id_bytes (get_or es (k + 1) d).0) (id_bytes (get_or es k d).0), before k (k + 1) d (omega arith) high) refl

  -- a binary search finds the first place, or none
  pub searched : (id : List ℕ) (r : Result ℕ ℕ) → IsSearchInRange r (length es) → IsBinarySearchResult (λ e. id_order (id_bytes e.0) id) es r
      → result_ok r ≡ position (has_text id) (keys_of es)
  searched id (Ok i) within equal =
      let d = (get-within es i within).0 in
      let same : id_bytes (get_or es i d).0 ≡ id = same_from_equal (id_bytes (get_or es i d).0) id (equal d) in
      let sooner : (k : ℕ) → k < i → has_text id (get_or (keys_of es) k d.0) ≡ false =
      λ k below. rw (key_at k d (omega (arith, below, within)))
      (differs_from_unequal (id_bytes (get_or es k d).0) id (λ e. let less = before k i d below within in let here = rw same at less in cc)) in
      let here : has_text id (get_or (keys_of es) i d.0) ≡ true = rw (key_at i d within) ((bytes_eq-Decides id (id_bytes (get_or es i d).0)).1 (sym same)) in
      let len = length-keys_of es in
      sym (position_is (has_text id) (keys_of es) i
      (position_or_len_is (has_text id) (keys_of es) i d.0 (omega (arith, within, len)) sooner (λ _. here)) (omega (arith, within, len)))
  searched id (Err at) within parted =
      let point = parted (searchable_from_sorted id_order-total (λ e. id_bytes e.0) es id sorted) in
      sym (position_none (has_text id) (keys_of es) (none-len (has_text id) (keys_of es) (λ k d inside.
      let low : k < length es = omega (arith, inside, length-keys_of es) in
      let e : Id × Option ℕ = (d, None) in
      rw (key_at k e low) (differs_from_unequal (id_bytes (get_or es k e).0) id (elim (dec_lt k at) [
        | yes below ↦ λ equal. let less = point.0 k e (omega arith) below in cc
        | no above ↦ λ equal. let greater = point.1 k e (omega (arith, above)) low in cc
      ])))))

  -- an id that comes after the last comes after all
  after_last : (id : List ℕ) (i : ℕ) (d : Id × Option ℕ) → i + 1 ≡ length es → id_order (id_bytes (get_or es i d).0) id ≡ Less → ComesAfter es id
  after_last id i d last less k e within = elim (dec_lt k i) [
    | yes below ↦
        id_order-total.trans (id_bytes (get_or es k e).0) (id_bytes (get_or es i e).0) id (before k i e below (omega (arith, last))) here
    | no above ↦ let same : k ≡ i = omega (arith, above, within, last) in rw same here
  ]
    where
      here : id_order (id_bytes (get_or es i e).0) id ≡ Less
      here = rw (get_or_default es i e d (omega (arith, last))) less

  -- so the last id decides if an id comes after all
  pub last_decides : (id : List ℕ) (last : Id × Option ℕ) (answer : Bool) → slice_get es (length es - 1) ≡ Some last
      → answer ≡ is_lt (id_order (id_bytes last.0) id) → (IsTrue answer → ComesAfter es id) × (ComesAfter es id → IsTrue answer)
  last_decides id last answer at is = (
    λ yes. after_last id end last (omega (arith, within)) (rw here (less_from_is_lt (id_order (id_bytes last.0) id) (sym is ∙ yes))),
    λ after. is ∙ ap is_lt (rw here at (after end last within)),
  )
    where
      end : ℕ
      end = length es - 1

      within : end < length es
      within = slice_get_within es end last at

      here : get_or es end last ≡ last
      here = get_or_from_slice_get es end last last at

      less_from_is_lt : (o : Ordering) → is_lt o ≡ true → o ≡ Less
      less_from_is_lt Less h = refl
      less_from_is_lt Equal h = cc
      less_from_is_lt Greater h = cc

-- ids that come before another
module _ (es : List (Id × Option ℕ)) (id : List ℕ) (after : ComesAfter es id) where
  -- differ from it
  absent_after : position (has_text id) (keys_of es) ≡ None
  absent_after =
      position_none (has_text id) (keys_of es) (none-len (has_text id) (keys_of es) (λ k d inside.
      let within : k < length es = omega (arith, inside, length-keys_of es) in
      rw (get_or-map (λ e. e.0) es k (d, None) d within)
      (differs_from_unequal (id_bytes (get_or es k (d, None)).0) id (λ e. let less = after k (d, None) within in cc))))

  -- and with it they rise
  rises_push : (own : Id) (v : Option ℕ) → id_bytes own ≡ id → Rises es → Rises (es ++ (own, v) ∷ [])
  unfolding IsStrictlySortedBy
  rises_push own v is rises =
      rw (map-append (λ e. e.0) es ((own, v) ∷ [])) (pushed (keys_of es) rises (keys_before es (recursion_from_All _ es after)))
    where
      keys_before : (es : List (Id × Option ℕ)) → AllByRecursion (λ e. id_order (id_bytes e.0) id ≡ Less) es → AllByRecursion (λ k. order_of k own ≡ Less) (keys_of es)
      keys_before [] h = tt
      keys_before (e ∷ es) h = (rw is h.0, keys_before es h.1)

      all_pushed : (k : Id) (ks : List Id) → AllByRecursion (λ y. order_of k y ≡ Less) ks → order_of k own ≡ Less
          → AllByRecursion (λ y. order_of k y ≡ Less) (ks ++ own ∷ [])
      all_pushed k [] h less = (less, tt)
      all_pushed k (x ∷ xs) h less = (h.0, all_pushed k xs h.1 less)

      pushed : (ks : List Id) → IsStrictlySortedBy order_of ks → AllByRecursion (λ k. order_of k own ≡ Less) ks → IsStrictlySortedBy order_of (ks ++ own ∷ [])
      pushed [] s h = (tt, tt)
      pushed (k ∷ ks) s h = (all_pushed k ks s.0 h.0, pushed ks s.1 h.1)

keys-both : (xs ys : List (Id × Option ℕ)) → keys_of (xs ++ ys) ≡ keys_of xs ++ keys_of ys
keys-both xs ys = map-append (λ e. e.0) xs ys

-- ids still differ once one of them has a number, or there is one more
distinct_inserted : (es : List (Id × Option ℕ)) (k : Id) (v : Option ℕ) → IsDistinct id_eq (keys_of es) → IsDistinct id_eq (keys_of (insert_entry id_eq es k v))
distinct_inserted es k v distinct = by (position (id_eq k) (keys_of es)) refl
  where
    by : (r : Option ℕ) → position (id_eq k) (keys_of es) ≡ r → IsDistinct id_eq (keys_of (insert_entry id_eq es k v))
    by None none =
        rw (insert_entry-absent id_eq k v es (Missing-position (id_eq k) es none).absent, map-append (λ e. e.0) es ((k, v) ∷ []))
        (IsDistinct-push id_eq-laws (keys_of es) k distinct (any-none (id_eq k) es (none_from_position (id_eq k) es none)))
    by (Some i) found = rw (insert_entry-first id_eq k v es i (Found-position (id_eq k) es i found).first, keys-set es i v) distinct

-- an inserted id has a place
pub inserted_within : (es : List (Id × Option ℕ)) (k : Id) (v : Option ℕ)
    → position_or_len (id_eq k) (keys_of es) < length (insert_entry id_eq es k v)
inserted_within es k v = by (position (id_eq k) (keys_of es)) refl
  where
    by : (r : Option ℕ) → position (id_eq k) (keys_of es) ≡ r → position_or_len (id_eq k) (keys_of es) < length (insert_entry id_eq es k v)
    by None none =
        let missing = Missing-position (id_eq k) es none in
        rw (insert_entry-absent id_eq k v es missing.absent) (omega (arith, missing.or_len, length-append es ((k, v) ∷ [])))
    by (Some i) at =
        let found = Found-position (id_eq k) es i at in
        let same = ap length (keys-set es i v) in
        rw (insert_entry-first id_eq k v es i found.first)
        (omega (arith, found.or_len, found.within, same, length-keys_of es, length-keys_of (set_value_at es i v)))

empty_from_length : {X : Type 0} (xs : List X) → length xs ≡ 0 → xs ≡ []
empty_from_length [] h = refl
empty_from_length (x ∷ xs) h = absurd (omega (arith, h))

-- where there is room for an id that comes after all, there are no others, and it comes after all of the list
pub no_others : (ys : List (Id × Option ℕ)) (room : ℕ) → 0 < room_before ys room → length ys ≡ 0
no_others [] room h = refl
no_others (y ∷ ys) room h = absurd (omega arith)

pub after_list : (xs ys : List (Id × Option ℕ)) (id : List ℕ) → ComesAfter (xs ++ ys) id → ComesAfter xs id
after_list xs ys id after k d within = rw (get_or-append xs ys d k within) at (after k d (omega (arith, within, length-append xs ys)))

-- none at all
pub AreApart-empty : (xs ys : List (Id × Option ℕ)) → xs ≡ [] → ys ≡ [] → AreApart xs ys
unfolding IsStrictlySortedBy IsDistinct
AreApart-empty xs ys none others = rw (none, others) (record { rises = tt; distinct = tt })

module _ (xs ys : List (Id × Option ℕ)) (apart : AreApart xs ys) where
  -- other numbers for the same ids
  pub AreApart-set_sooner : (i : ℕ) (w : Option ℕ) → AreApart (set_value_at xs i w) ys
  AreApart-set_sooner i w = record {
    rises = rw (keys-set xs i w) apart.rises;
    distinct = rw (keys-both (set_value_at xs i w) ys, keys-set xs i w, ← keys-both xs ys) apart.distinct;
  }

  pub AreApart-set_later : (i : ℕ) (w : Option ℕ) → AreApart xs (set_value_at ys i w)
  AreApart-set_later i w = record {
    rises = apart.rises;
    distinct = rw (keys-both xs (set_value_at ys i w), keys-set ys i w, ← keys-both xs ys) apart.distinct;
  }

module _ (xs ys : List (Id × Option ℕ)) (k : Id) (v : Option ℕ) where
  -- an insertion of an id of the first list
  insert-sooner : (i : ℕ) → position (id_eq k) (keys_of xs) ≡ Some i → insert_entry id_eq (xs ++ ys) k v ≡ set_value_at xs i v ++ ys
  insert-sooner i at =
      insert_entry-first id_eq k v (xs ++ ys) i (Found-position (id_eq k) (xs ++ ys) i (position-sooner (id_eq k) xs ys i at)).first
      ∙ set-sooner xs ys i v (Found-position (id_eq k) xs i at).within

  -- and of any other one
  insert-later : position (id_eq k) (keys_of xs) ≡ None → insert_entry id_eq (xs ++ ys) k v ≡ xs ++ insert_entry id_eq ys k v
  insert-later none = behind xs (none_from_position (id_eq k) xs none)
    where
      behind : (xs : List (Id × Option ℕ)) → NonePasses (id_eq k) xs → insert_entry id_eq (xs ++ ys) k v ≡ xs ++ insert_entry id_eq ys k v
      behind [] h = refl
      behind (x ∷ xs) h = rw h.0 (ap (λ l. x ∷ l) (behind xs h.1))

  -- the effect of an insertion that moves the lists
  pub record InsertsId (xs' ys' : List (Id × Option ℕ)) (place : ℕ) (old : Option (Option ℕ)) : Type 0 where
    pub apart : AreApart xs' ys'
    pub after : xs' ++ ys' ≡ insert_entry id_eq (xs ++ ys) k v
    pub index : place ≡ position_or_len (id_eq k) (keys_of (xs ++ ys))
    pub before : old ≡ lookup (id_eq k) (xs ++ ys)

  module _ (apart : AreApart xs ys) where
    -- an id that comes after all goes to the end of the list
    pub inserts_last : length ys ≡ 0 → ComesAfter xs (id_bytes k) → InsertsId (xs ++ (k, v) ∷ []) ys (length xs) None
    inserts_last none after = record {
      apart = record { rises = rises_push xs (id_bytes k) after k v refl apart.rises; distinct = rw grown (distinct_inserted (xs ++ ys) k v apart.distinct) };
      after = grown;
      index = omega (arith, missing.or_len, none, length-append xs ys);
      before = sym missing.value;
    }
      where
        empty : ys ≡ []
        empty = empty_from_length ys none

        absent : position (id_eq k) (keys_of (xs ++ ys)) ≡ None
        absent = position-later (id_eq k) xs ys (absent_after xs (id_bytes k) after) ∙ ap (λ l. option_map (λ i. length xs + i) (position (id_eq k) (keys_of l))) empty

        missing : Missing (id_eq k) (xs ++ ys)
        missing = Missing-position (id_eq k) (xs ++ ys) absent

        grown : (xs ++ (k, v) ∷ []) ++ ys ≡ insert_entry id_eq (xs ++ ys) k v
        grown = sym (insert_entry-absent id_eq k v (xs ++ ys) missing.absent ∙ rw empty (ap (λ l. l ++ (k, v) ∷ []) (append-nil xs) ∙ sym (append-nil (xs ++ (k, v) ∷ []))))

    -- an id of the list gets another number
    pub inserts_sooner : (i : ℕ) (e : Id × Option ℕ) → position (id_eq k) (keys_of xs) ≡ Some i → e ≡ get_or xs i e
        → InsertsId (set xs i (e.0, v)) ys i (Some e.1)
    inserts_sooner i e at is = rw (set-entry xs i e v is) (record {
      apart = AreApart-set_sooner xs ys apart i v;
      after = sym (insert-sooner i at);
      index = sym found.or_len;
      before = sym (found.value ∙ slice_get-map (λ e. e.1) (xs ++ ys) i ∙ ap (option_map (λ e. e.1)) (get-sooner xs ys i within ∙ here));
    })
      where
        found : Found (id_eq k) (xs ++ ys) i
        found = Found-position (id_eq k) (xs ++ ys) i (position-sooner (id_eq k) xs ys i at)

        within : i < length xs
        within = (Found-position (id_eq k) xs i at).within

        here : slice_get xs i ≡ Some e
        here = slice_get-get_or xs i e within ∙ ap Some (sym is)

    -- any other id goes to the others
    pub inserts_later : (ys' : List (Id × Option ℕ)) (index : ℕ) (before : Option (Option ℕ)) → position (id_eq k) (keys_of xs) ≡ None
        → ys' ≡ insert_entry id_eq ys k v → index ≡ position_or_len (id_eq k) (keys_of ys) → before ≡ lookup (id_eq k) ys
        → InsertsId xs ys' (length xs + index) before
    inserts_later ys' index before none after place old = record {
      apart = record { rises = apart.rises; distinct = rw grown (distinct_inserted (xs ++ ys) k v apart.distinct) };
      after = grown;
      index = omega (arith, place, or_len-later (id_eq k) xs ys others);
      before = old ∙ sym (lookup-later (id_eq k) xs ys others);
    }
      where
        others : NonePasses (id_eq k) xs
        others = none_from_position (id_eq k) xs none

        grown : xs ++ ys' ≡ insert_entry id_eq (xs ++ ys) k v
        grown = ap (λ l. xs ++ l) after ∙ sym (insert-later none)

-- ids rise up to one more place, if the id there comes after all before it
pub rises_more : (es : List (Id × Option ℕ)) (i : ℕ) (e : Id × Option ℕ) → i < length es → e ≡ get_or es i e → Rises (take i es) → ComesAfter (take i es) (id_bytes e.0)
    → Rises (take (i + 1) es)
rises_more es i e within is rises after =
    rw (add-one, take-suc es i e within, ← is) (rises_push (take i es) (id_bytes e.0) after e.0 e.1 refl rises)

-- distinct ids that are split at a place up to which they rise
pub AreApart-split : (es others : List (Id × Option ℕ)) (i : ℕ) → Rises (take i es) → others ≡ drop i es → IsDistinct id_eq (keys_of es) → AreApart (take i es) others
AreApart-split es others i rises is distinct = rw is (record { rises = rises; distinct = rw (take-append-drop i es) distinct })

distinct_behind : (xs ys : List (Id × Option ℕ)) → IsDistinct id_eq (keys_of (xs ++ ys)) → IsDistinct id_eq (keys_of ys)
unfolding IsDistinct
distinct_behind [] ys distinct = distinct
distinct_behind (x ∷ xs) ys distinct = distinct_behind xs ys distinct.1

pub distinct_drop : (es : List (Id × Option ℕ)) (i : ℕ) → IsDistinct id_eq (keys_of es) → IsDistinct id_eq (keys_of (drop i es))
distinct_drop es i distinct = distinct_behind (take i es) (drop i es) (rw (take-append-drop i es) distinct)

module _ (k : Id) (v : Option ℕ) (rest : List (Id × Option ℕ)) where
  key_behind : (P : Id → Type 0) (es : List (Id × Option ℕ)) → AllByRecursion P (keys_of (es ++ (k, v) ∷ rest)) → P k
  key_behind P [] all = all.0
  key_behind P (e ∷ es) all = key_behind P es all.1

  inserted_last : (es : List (Id × Option ℕ)) → IsDistinct id_eq (keys_of (es ++ (k, v) ∷ rest)) → insert_entry id_eq es k v ≡ es ++ (k, v) ∷ []
  unfolding IsDistinct
  inserted_last [] distinct = refl
  inserted_last (e ∷ es) distinct =
      let differs : id_eq k e.0 ≡ false = id_eq-laws.symm k e.0 ∙ key_behind (λ y. id_eq e.0 y ≡ false) es distinct.0 in
      ap (λ b. cond b ((e.0, v) ∷ es) (e ∷ insert_entry id_eq es k v)) differs ∙ ap (λ l. e ∷ l) (inserted_last es distinct.1)

-- distinct entries that are inserted one by one keep their order
pub inserted_next : (all es es' left rest : List (Id × Option ℕ)) (k : Id) (v : Option ℕ) → IsDistinct id_eq (keys_of all) → es ++ left ≡ all → left ≡ (k, v) ∷ rest
    → es' ≡ insert_entry id_eq es k v → es' ++ rest ≡ all
inserted_next all es es' left rest k v distinct so_far next after =
    let whole : es ++ (k, v) ∷ rest ≡ all = ap (λ l. es ++ l) (sym next) ∙ so_far in
    let last = inserted_last k v rest es (rw whole distinct) in
    ap (λ l. l ++ rest) (after ∙ last) ∙ append_assoc es ((k, v) ∷ []) rest ∙ whole
