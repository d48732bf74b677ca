-- The ids and the slots of a layer: what a walk and a look-up by number give.
use Rattle.std.proofs.Common.{◌≡◌, ℕ, suc, ◌+◌, ◌<◌, ◌≤◌, true, false, List, [], ◌∷◌, get_or, length, slice_get}
use Rattle.std.proofs.Common.{Option, Some, None, refl, sym, ap, ◌∙◌, arith, add-one}
use Rattle.std.specs.List.{IsDistinct}
use Rattle.std.specs.Map.{keys_of, values_of}
use Rattle.std.specs.Option.{option_map, option_flatten}
use Rattle.std.specs.Str.{bytes_eq}
use Rattle.std.proofs.lemmas.Map.Keys.{apart_from_distinct}
use Rattle.std.proofs.lemmas.Map.Entries.{length-values_of}
use Rattle.std.proofs.lemmas.Option.{slice_get-map, slice_get-get_or, slice_get_within, get_or_from_slice_get}
use Rattle.std.proofs.lemmas.Slice.Eq.{bytes_eq-Decides}
use native.Mathlib.Decide.{dec_lt}
use Rattle.layer_core.specs.declared.features.Slot.{Slot}
use Rattle.layer_core.specs.declared.id.Id.{Id}
use Rattle.layer_core.specs.Ids.{id_bytes, id_eq}
use Rattle.layer_core.specs.Layers.{IsLayer, with_number}
use Rattle.layer_core.specs.IdsAndSlots.{AreInverse, StandForLayer, IsWalk, ids_of, places, id_of, feature_of, features_from, contents_of}
use Rattle.layer_core.proofs.SlotLemmas.{feature_in, find-number, features-rising, numbers-below, features-distinct, length-features-le}
use Rattle.layer_core.proofs.Lists.{get-within}

-- the id that is read at a place
pub id_read : (es : List (Id × Option ℕ)) (p : ℕ) (e : Id × Option ℕ) → p < length es → e ≡ get_or es p e → get_or (ids_of (keys_of es)) p [] ≡ id_bytes e.0
id_read es p e within is =
    let here : slice_get es p ≡ Some e = slice_get-get_or es p e within ∙ ap Some (sym is) in
    let key = slice_get-map (λ e. e.0) es p ∙ ap (option_map (λ e. e.0)) here in
    get_or_from_slice_get (ids_of (keys_of es)) p (id_bytes e.0) [] (slice_get-map id_bytes (keys_of es) p ∙ ap (option_map id_bytes) key)

module _ {G : Type 0} where
  pub place_of : (slots : List (Option (Slot G))) (k : ℕ) (s : Slot G) → slice_get slots k ≡ Some (Some s) → slice_get (places slots) k ≡ Some (Some s.place)
  place_of slots k s h = slice_get-map (option_map (λ slot. slot.place)) slots k ∙ ap (option_map (option_map (λ slot. slot.place))) h

  module _ (es : List (Id × Option ℕ)) (slots : List (Option (Slot G))) (table : AreInverse (values_of es) slots) where
    -- the entry that a slot's feature names
    pub entry_of : (k : ℕ) (s : Slot G) → slice_get slots k ≡ Some (Some s)
        → (e : Id × Option ℕ) × (slice_get es s.place ≡ Some e) × (id_of (ids_of (keys_of es)) s ≡ id_bytes e.0)
    entry_of k s h =
        let number = table.numbered s.place k (place_of slots k s h) in
        let entry = get-within es s.place (omega (arith, slice_get_within (values_of es) s.place (Some k) number, length-values_of es)) in
        let key = slice_get-map (λ e. e.0) es s.place ∙ ap (option_map (λ e. e.0)) entry.1 in
        let bytes = slice_get-map id_bytes (keys_of es) s.place ∙ ap (option_map id_bytes) key in
        (entry.0, entry.1, get_or_from_slice_get (ids_of (keys_of es)) s.place (id_bytes entry.0.0) [] bytes)

    pub key_of : (k : ℕ) (s : Slot G) → slice_get slots k ≡ Some (Some s)
        → (key : Id) × (slice_get (keys_of es) s.place ≡ Some key) × (id_of (ids_of (keys_of es)) s ≡ id_bytes key)
    key_of k s h =
        let entry = entry_of k s h in
        (entry.0.0, slice_get-map (λ e. e.0) es s.place ∙ ap (option_map (λ e. e.0)) entry.1, entry.2)

    module _ (id : List ℕ) where
      -- two keys with one id stand at one place
      pub one_place : IsDistinct id_eq (keys_of es) → (i j : ℕ) (a b : Id) → slice_get (keys_of es) i ≡ Some a → slice_get (keys_of es) j ≡ Some b
          → bytes_eq id (id_bytes a) ≡ true → bytes_eq id (id_bytes b) ≡ true → i ≡ j
      one_place distinct i j a b at_i at_j is_a is_b = elim (dec_lt i j) [
        | yes below ↦ absurd (apart i j a b at_i at_j below same)
        | no above ↦ elim (dec_lt j i) [
          | yes below ↦ absurd (apart j i b a at_j at_i below (sym same))
          | no under ↦ omega (arith, above, under)
        ]
      ]
        where
          same : id_bytes a ≡ id_bytes b
          same = sym ((bytes_eq-Decides id (id_bytes a)).0 is_a) ∙ (bytes_eq-Decides id (id_bytes b)).0 is_b

          apart : (i j : ℕ) (a b : Id) → slice_get (keys_of es) i ≡ Some a → slice_get (keys_of es) j ≡ Some b → i < j
              → id_bytes a ≡ id_bytes b → ⊥
          apart i j a b at_i at_j below same =
              let differ = apart_from_distinct id_eq (keys_of es) i j a distinct below (slice_get_within (keys_of es) j b at_j) in
              let keys_differ : bytes_eq (id_bytes a) (id_bytes b) ≡ false = rw
              (get_or_from_slice_get (keys_of es) i a a at_i, get_or_from_slice_get (keys_of es) j b a at_j) at differ in
              let keys_agree : bytes_eq (id_bytes a) (id_bytes b) ≡ true = (bytes_eq-Decides (id_bytes a) (id_bytes b)).1 same in
              cc

  -- what stands in the ids and the slots is a layer
  pub IsLayer-contents : (es : List (Id × Option ℕ)) (slots : List (Option (Slot G))) (count : ℕ) → StandForLayer es slots count
      → IsLayer (contents_of (keys_of es) slots)
  IsLayer-contents es slots count kept = record {
    distinct = features-distinct (ids_of (keys_of es)) 0 slots (λ j k s t a b e. apart j k s t a b e);
    rising = features-rising (ids_of (keys_of es)) 0 slots;
    below_next = numbers-below (ids_of (keys_of es)) (length slots) 0 slots (omega arith);
    few = kept.table.few;
  }
    where
      apart : (j k : ℕ) (s t : Slot G) → slice_get slots j ≡ Some (Some s) → slice_get slots k ≡ Some (Some t)
          → id_of (ids_of (keys_of es)) s ≡ id_of (ids_of (keys_of es)) t → j ≡ k
      apart j k s t a b e =
          let first = key_of es slots kept.table j s a in
          let second = key_of es slots kept.table k t b in
          let id = id_bytes first.0 in
          let same : id_bytes first.0 ≡ id_bytes second.0 = sym first.2 ∙ e ∙ second.2 in
          let place = one_place es slots kept.table id kept.distinct s.place t.place first.0 second.0 first.1 second.1
          ((bytes_eq-Decides id (id_bytes first.0)).1 refl) ((bytes_eq-Decides id (id_bytes second.0)).1 same) in
          let number = kept.table.numbered s.place j (place_of slots j s a) in
          let other = kept.table.numbered t.place k (place_of slots k t b) in
          let at_s : slice_get (values_of es) t.place ≡ Some (Some j) = sym (ap (slice_get (values_of es)) place) ∙ number in
          cc

  -- a look-up by number
  pub with_number-contents : (keys : List Id) (slots : List (Option (Slot G))) (k : ℕ)
      → with_number k (contents_of keys slots) ≡ feature_in (ids_of keys) k (slice_get slots k)
  with_number-contents keys slots k =
      let e : k ≡ 0 + k = omega arith in
      ap (λ n. with_number n (contents_of keys slots)) e ∙ find-number (ids_of keys) 0 slots k ∙ ap (λ n. feature_in (ids_of keys) n (slice_get slots k)) (sym e)

  pub count-le : (es : List (Id × Option ℕ)) (slots : List (Option (Slot G))) (count : ℕ) → StandForLayer es slots count → count ≤ length slots
  count-le es slots count kept = omega (arith, kept.counted, length-features-le (ids_of (keys_of es)) 0 slots)

  module _ (es : List (Id × Option ℕ)) (number : ℕ) (x : Option (Slot G)) (slots : List (Option (Slot G))) (walk : IsWalk es number (x ∷ slots)) where
    pub IsWalk-later : IsWalk es (number + 1) slots
    IsWalk-later = record { placed = λ k slot h. walk.placed (suc k) slot h; few = omega (arith, walk.few) }

    pub walked-some : (s : Slot G) → x ≡ Some s → s.place < length es
    walked-some s e = walk.placed 0 s (ap Some e)

  pub features-skip : (ids : List (List ℕ)) (n : ℕ) (slots : List (Option (Slot G))) → features_from ids (n + 1) slots ≡ features_from ids n (None ∷ slots)
  features-skip ids n slots = ap (λ m. features_from ids m slots) (add-one n)

  pub features-first : (ids : List (List ℕ)) (n : ℕ) (s : Slot G) (slots : List (Option (Slot G)))
      → features_from ids n (Some s ∷ slots) ≡ feature_of ids n s ∷ features_from ids (n + 1) slots
  features-first ids n s slots = ap (λ m. feature_of ids n s ∷ features_from ids m slots) (sym (add-one n))

  pub id-and-shape : (keys : List Id) (slots : List (Option (Slot G))) (k : ℕ) (slot : Slot G) (id : List ℕ) → slice_get slots k ≡ Some (Some slot)
      → id ≡ id_of (ids_of keys) slot
      → ◌≡◌ {A = Option (List ℕ × G)} (Some (id, slot.shape)) (option_map (λ f. (f.id, f.shape)) (with_number k (contents_of keys slots)))
  id-and-shape keys slots k slot id filled is =
      ap (λ i. Some (i, slot.shape)) is
      ∙ sym (ap (option_map (λ f. (f.id, f.shape))) (with_number-contents keys slots k ∙ ap (feature_in (ids_of keys) k) filled))

  -- a slot that was found by its number
  pub filled_at : (slots : List (Option (Slot G))) (k : ℕ) (slot : Slot G) → Some slot ≡ option_flatten (slice_get slots k) → slice_get slots k ≡ Some (Some slot)
  filled_at slots k slot h = by (slice_get slots k) h
    where
      by : (r : Option (Option (Slot G))) → Some slot ≡ option_flatten r → r ≡ Some (Some slot)
      by None h = cc
      by (Some None) h = cc
      by (Some (Some s)) h = ap Some (sym h)

  pub feature_none : (ids : List (List ℕ)) (k : ℕ) (r : Option (Option (Slot G))) → None ≡ option_flatten r → feature_in ids k r ≡ None
  feature_none ids k None h = refl
  feature_none ids k (Some None) h = refl
  feature_none ids k (Some (Some s)) h = cc

  -- look-ups by number
  pub number-empty : (keys : List Id) (slots : List (Option (Slot G))) (k : ℕ) → None ≡ option_flatten (slice_get slots k)
      → with_number k (contents_of keys slots) ≡ None
  number-empty keys slots k h = with_number-contents keys slots k ∙ feature_none (ids_of keys) k (slice_get slots k) h

  pub number-filled : (keys : List Id) (slots : List (Option (Slot G))) (k : ℕ) (slot : Slot G) → Some slot ≡ option_flatten (slice_get slots k)
      → with_number k (contents_of keys slots) ≡ Some (feature_of (ids_of keys) k slot)
  number-filled keys slots k slot h = with_number-contents keys slots k ∙ ap (feature_in (ids_of keys) k) (filled_at slots k slot h)

-- the slots of a table name places of ids
pub walk_placed : {G : Type 0} → (es : List (Id × Option ℕ)) (slots : List (Option (Slot G))) → AreInverse (values_of es) slots → (k : ℕ) (slot : Slot G)
    → slice_get slots k ≡ Some (Some slot) → slot.place < length es
walk_placed es slots table k slot here = let entry = entry_of es slots table k slot here in slice_get_within es slot.place entry.0 entry.1
