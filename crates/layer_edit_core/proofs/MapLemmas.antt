-- The map of ids and the slots of a layer: the results of lookups, and the effect of edits.
use Rattle.std.proofs.Common.{◌≡◌, ◌≢◌, ℕ, zero, suc, ◌+◌, ◌-◌, ◌<◌, ◌⊎◌, Bool, true, false, List, [], ◌∷◌, ◌++◌, set, get_or, length, slice_get, position}
use Rattle.std.proofs.Common.{Option, Some, None, is_some, refl, sym, subst, ap, ◌∙◌, inl, inr, arith, zero-add}
use Rattle.std.specs.List.{IsDistinct}
use Rattle.std.specs.Map.{keys_of, values_of, lookup, lookup_key}
use Rattle.std.specs.Option.{option_map, option_flatten}
use Rattle.std.specs.Str.{bytes_eq}
use Rattle.std.proofs.lemmas.List.{length-map, length-append, length-set, map-append, map-set, append-nil}
use Rattle.std.proofs.Math.Seq.{get_or-append_seam}
use Rattle.std.proofs.lemmas.Map.Entries.{length-keys_of, length-values_of}
use Rattle.std.proofs.lemmas.Option.{slice_get-map, slice_get_within, slice_get_past, get_or_from_slice_get}
use Rattle.std.proofs.lemmas.Slice.Eq.{bytes_eq-Decides}
use Rattle.std.specs.List.{position_or_len}
use Rattle.indexmap.specs.IndexMap.{set_value_at, insert_entry}
use Rattle.indexmap.proofs.MapLemmas.{Found-position, Missing-position, insert_entry-absent, insert_entry-first}
use Rattle.layer_core.specs.declared.features.Slot.{Slot}
use Rattle.layer_core.specs.declared.id.Id.{Id}
use Rattle.layer_core.specs.Ids.{id_bytes, id_eq}
use Rattle.layer_core.specs.Limits.{most_features}
use Rattle.layer_edit_core.specs.RisingIds.{has_text}
use Rattle.layer_core.specs.Layers.{with_id, inserted, deleted}
use Rattle.layer_core.specs.IdsAndSlots.{AreInverse, StandForLayer, ids_of, places, id_of, feature_of, features_from, contents_of}
use Rattle.layer_edit_core.specs.FeaturesById.{IsAbsent, IsOnly}
use Rattle.layer_core.proofs.TableLemmas.{place_of, key_of, one_place}
use Rattle.layer_edit_core.proofs.SlotLemmas.{find-absent, find-only, filter-absent, filter-only, features-push, features-more_ids, length-features_without}
use Rattle.layer_core.proofs.Lists.{get-push_before, get-push_other, get-push_at, get-set_at, get-set_other, get-all, get-within}

same_or_other : (a b : ℕ) → (a ≡ b) ⊎ (a ≢ b)
same_or_other zero zero = inl refl
same_or_other zero (suc b) = inr (λ e. omega (arith, e))
same_or_other (suc a) zero = inr (λ e. omega (arith, e))
same_or_other (suc a) (suc b) = elim (same_or_other a b) [ inl e ↦ inl (ap suc e) | inr d ↦ inr (λ e. d (omega (arith, e))) ]

pub values-set : {K X : Type 0} (es : List (K × X)) (i : ℕ) (w : X) → values_of (set_value_at es i w) ≡ set (values_of es) i w
values-set [] i w = refl
values-set (e ∷ es) zero w = refl
values-set (e ∷ es) (suc i) w = ap (λ l. e.1 ∷ l) (values-set es i w)

pub keys-set : {K X : Type 0} (es : List (K × X)) (i : ℕ) (w : X) → keys_of (set_value_at es i w) ≡ keys_of es
keys-set [] i w = refl
keys-set (e ∷ es) zero w = refl
keys-set (e ∷ es) (suc i) w = ap (λ l. e.0 ∷ l) (keys-set es i w)

-- a value that is written and written back
pub set-back : {K X : Type 0} (es : List (K × X)) (i : ℕ) (v w : X) → slice_get (values_of es) i ≡ Some w → set_value_at (set_value_at es i v) i w ≡ es
set-back [] i v w h = refl
set-back (e ∷ es) zero v w h = let same : e.1 ≡ w = cc in ap (λ x. (e.0, x) ∷ es) (sym same)
set-back (e ∷ es) (suc i) v w h = ap (λ l. e ∷ l) (set-back es i v w h)

-- the map after an insertion, if the id was new or its feature was deleted
record IsGiven (es es' : List (Id × Option ℕ)) (k : Id) (v : Option ℕ) (p : ℕ) : Type 0 where
  pub numbered : slice_get (values_of es') p ≡ Some v
  pub others : (q : ℕ) → q ≢ p → slice_get (values_of es') q ≡ slice_get (values_of es) q
  pub free : (n : ℕ) → slice_get (values_of es) p ≢ Some (Some n)
  pub id : get_or (ids_of (keys_of es')) p [] ≡ id_bytes k
  pub more : (more : List (List ℕ)) × (ids_of (keys_of es') ≡ ids_of (keys_of es) ++ more)

module _ {G : Type 0} where
  module _ (numbers numbers' : List (Option ℕ)) (slots : List (Option (Slot G))) (p : ℕ) (table : AreInverse numbers slots)
      (others : (q : ℕ) → q ≢ p → slice_get numbers' q ≡ slice_get numbers q) where
    -- a feature more, whose id had no number
    pub AreInverse-push : (slot : Slot G) → slot.place ≡ p → slice_get numbers' p ≡ Some (Some (length slots)) → ((n : ℕ) → slice_get numbers p ≢ Some (Some n))
        → length slots < most_features → AreInverse numbers' (slots ++ Some slot ∷ [])
    AreInverse-push slot is_place given free room = record {
      placed = λ q n h. rw grown (elim (same_or_other q p) [ inl e ↦ placed_new q n h e | inr d ↦ placed_old q n h d ]);
      numbered =
          λ q n h. let h' = rw grown at h in elim (same_or_other n (length (places slots))) [ inl e ↦ numbered_new q n h' e | inr d ↦ numbered_old q n h' d ];
      few = omega (arith, length-append {A = Option (Slot G)});
    }
      where
        grown : places (slots ++ Some slot ∷ []) ≡ places slots ++ Some p ∷ []
        grown = map-append (option_map (λ s. s.place)) slots (Some slot ∷ []) ∙ ap (λ x. places slots ++ Some x ∷ []) is_place

        len : length (places slots) ≡ length slots
        len = length-map slots (option_map (λ s. s.place))

        placed_new : (q n : ℕ) → slice_get numbers' q ≡ Some (Some n) → q ≡ p → slice_get (places slots ++ Some p ∷ []) n ≡ Some (Some q)
        placed_new q n h e =
            let at_p : slice_get numbers' p ≡ Some (Some n) = rw (← e) h in
            let number : n ≡ length (places slots) = let same : n ≡ length slots = cc in same ∙ sym len in
            rw (number, e) (get-push_at (places slots) (Some p))

        placed_old : (q n : ℕ) → slice_get numbers' q ≡ Some (Some n) → q ≢ p → slice_get (places slots ++ Some p ∷ []) n ≡ Some (Some q)
        placed_old q n h d =
            let old = table.placed q n (sym (others q d) ∙ h) in
            get-push_before (places slots) (Some p) n (slice_get_within (places slots) n (Some q) old) ∙ old

        numbered_new : (q n : ℕ) → slice_get (places slots ++ Some p ∷ []) n ≡ Some (Some q) → n ≡ length (places slots) → slice_get numbers' q ≡ Some (Some n)
        numbered_new q n h e =
            let last = get-push_at (places slots) (Some p) in
            let at_end : slice_get (places slots ++ Some p ∷ []) (length (places slots)) ≡ Some (Some q) = rw (← e) h in
            let same : q ≡ p = cc in
            rw (same, e, len) given

        numbered_old : (q n : ℕ) → slice_get (places slots ++ Some p ∷ []) n ≡ Some (Some q) → n ≢ length (places slots) → slice_get numbers' q ≡ Some (Some n)
        numbered_old q n h d =
            let within : n < length (places slots ++ Some p ∷ []) = slice_get_within (places slots ++ Some p ∷ []) n (Some q) h in
            let below : n < length (places slots) = omega (arith, length-append (places slots) (Some p ∷ [])) in
            let old = table.numbered q n (sym (get-push_before (places slots) (Some p) n below) ∙ h) in
            others q (λ e. free n (let moved : slice_get numbers p ≡ Some (Some n) = rw (← e) old in moved)) ∙ old

    -- a feature less
    pub AreInverse-delete : (k : ℕ) → slice_get (places slots) k ≡ Some (Some p) → slice_get numbers' p ≡ Some None → AreInverse numbers' (set slots k None)
    AreInverse-delete k here gone = record {
      placed = λ q n h. rw cleared (placed_left q n h);
      numbered = λ q n h. numbered_left q n (rw cleared at h);
      few = let few = table.few in omega (arith, length-set slots k None);
    }
      where
        cleared : places (set slots k None) ≡ set (places slots) k None
        cleared = map-set (option_map (λ s. s.place)) slots k None

        held : slice_get numbers p ≡ Some (Some k)
        held = table.numbered p k here

        placed_left : (q n : ℕ) → slice_get numbers' q ≡ Some (Some n) → slice_get (set (places slots) k None) n ≡ Some (Some q)
        placed_left q n h = elim (same_or_other q p) [
          | inl e ↦ let at_p : slice_get numbers' p ≡ Some (Some n) = rw (← e) h in cc
          | inr d ↦
              let old = table.placed q n (sym (others q d) ∙ h) in
              get-set_other (places slots) k n None (λ e. d (let at_k : slice_get (places slots) k ≡ Some (Some q) = rw (← e) old in cc)) ∙ old
        ]

        numbered_left : (q n : ℕ) → slice_get (set (places slots) k None) n ≡ Some (Some q) → slice_get numbers' q ≡ Some (Some n)
        numbered_left q n h = elim (same_or_other n k) [
          | inl e ↦
              let empty = get-set_at (places slots) k None (slice_get_within (places slots) k (Some p) here) in
              let at_k = rw e at h in cc
          | inr d ↦
              let old = table.numbered q n (sym (get-set_other (places slots) k n None d) ∙ h) in
              others q (λ e. d (let at_p : slice_get numbers p ≡ Some (Some n) = rw (← e) old in let mine = held in cc)) ∙ old
        ]

  module _ (es : List (Id × Option ℕ)) (slots : List (Option (Slot G))) (table : AreInverse (values_of es) slots) where
    module _ (id : List ℕ) where
      pub absent_from_missing : position (has_text id) (keys_of es) ≡ None → IsAbsent (ids_of (keys_of es)) id slots
      absent_from_missing none = record {
        differs = λ k s h.
            let key = key_of es slots table k s h in
            ap (bytes_eq id) key.2 ∙ get-all (λ x. has_text id x ≡ false) (keys_of es) s.place key.0 (Missing-position (has_text id) es none).absent key.1;
      }

      passes : (es : List (Id × Option ℕ)) (key : Id) → lookup_key (has_text id) es ≡ Some key → has_text id key ≡ true
      passes [] key h = cc
      passes (e ∷ es) key h = by (has_text id e.0) refl (λ later. passes es key later)
        where
          by : (b : Bool) → has_text id e.0 ≡ b → (lookup_key (has_text id) es ≡ Some key → has_text id key ≡ true) → has_text id key ≡ true
          by true t later = let same : e.0 ≡ key = let found = rw t at h in cc in rw (← same) t
          by false t later = later (rw t at h)

      -- a found id's key
      first_key : (i : ℕ) → position (has_text id) (keys_of es) ≡ Some i → (key : Id) × (slice_get (keys_of es) i ≡ Some key) × (has_text id key ≡ true)
      first_key i at =
          let found = Found-position (has_text id) es i at in
          let key = get-within (keys_of es) i (let within = found.within in omega (arith, length-keys_of es)) in
          (key.0, key.1, passes es key.0 (found.key ∙ key.1))

      -- a slot's feature that has the found id stands at its place
      found_place : IsDistinct id_eq (keys_of es) → (i : ℕ) → position (has_text id) (keys_of es) ≡ Some i → (j : ℕ) (s : Slot G)
          → slice_get slots j ≡ Some (Some s) → bytes_eq id (id_of (ids_of (keys_of es)) s) ≡ true → s.place ≡ i
      found_place distinct i at j s h e =
          let key = key_of es slots table j s h in
          let first = first_key i at in
          one_place es slots table id distinct s.place i key.0 first.0 key.1 first.1 (rw key.2 at e) first.2

      pub absent_from_deleted : IsDistinct id_eq (keys_of es) → (i : ℕ) → position (has_text id) (keys_of es) ≡ Some i
          → slice_get (values_of es) i ≡ Some None → IsAbsent (ids_of (keys_of es)) id slots
      absent_from_deleted distinct i at gone = record { differs = λ k s h. by k s h (bytes_eq id (id_of (ids_of (keys_of es)) s)) refl }
        where
          by : (k : ℕ) (s : Slot G) → slice_get slots k ≡ Some (Some s) → (b : Bool) → bytes_eq id (id_of (ids_of (keys_of es)) s) ≡ b → b ≡ false
          by k s h true e =
              let same = found_place distinct i at k s h e in
              let number = table.numbered s.place k (place_of slots k s h) in
              let at_i : slice_get (values_of es) i ≡ Some (Some k) = rw same at number in
              cc
          by k s h false e = refl

      pub only_from_found : IsDistinct id_eq (keys_of es) → (i n : ℕ) (slot : Slot G) → position (has_text id) (keys_of es) ≡ Some i
          → slice_get (values_of es) i ≡ Some (Some n) → slice_get slots n ≡ Some (Some slot) → IsOnly (ids_of (keys_of es)) id slots n slot
      only_from_found distinct i n slot at held here = record {
        here = here;
        same =
            let key = key_of es slots table n slot here in
            let first = first_key i at in
            let places_agree : Some (Some slot.place) ≡ Some (Some i) = sym (place_of slots n slot here) ∙ table.placed i n held in
            let same_place : slot.place ≡ i = cc in
            let one_entry : Some key.0 ≡ Some first.0 = sym key.1 ∙ ap (slice_get (keys_of es)) same_place ∙ first.1 in
            let one_key : key.0 ≡ first.0 = cc in
            rw (key.2, one_key) first.2;
        only = λ j s h e.
            let same = found_place distinct i at j s h e in
            let number = table.numbered s.place j (place_of slots j s h) in
            let at_i : slice_get (values_of es) i ≡ Some (Some j) = rw same at number in
            cc;
      }

      -- an id's number is that of a filled slot
      pub slot_from_number : (i n : ℕ) → slice_get (values_of es) i ≡ Some (Some n) → (slot : Slot G) × (slice_get slots n ≡ Some (Some slot)) × (slot.place ≡ i)
      slot_from_number i n held = by (slice_get slots n) refl (table.placed i n held)
        where
          by : (r : Option (Option (Slot G))) → slice_get slots n ≡ r → slice_get (places slots) n ≡ Some (Some i)
              → (slot : Slot G) × (slice_get slots n ≡ Some (Some slot)) × (slot.place ≡ i)
          by None e h = let at_n = sym (slice_get-map (option_map (λ s. s.place)) slots n ∙ ap (option_map (option_map (λ s. s.place))) e) ∙ h in cc
          by (Some None) e h = let at_n = sym (slice_get-map (option_map (λ s. s.place)) slots n ∙ ap (option_map (option_map (λ s. s.place))) e) ∙ h in cc
          by (Some (Some slot)) e h = let at_n : Some (Some slot.place) ≡ Some (Some i) = sym (place_of slots n slot e) ∙ h in (slot, e, cc)

  -- a look-up by id
  pub with_id-absent : (keys : List Id) (slots : List (Option (Slot G))) (id : List ℕ) → IsAbsent (ids_of keys) id slots
      → with_id id (contents_of keys slots) ≡ None
  with_id-absent keys slots id absent = find-absent (ids_of keys) id 0 slots absent

  pub with_id-only : (keys : List Id) (slots : List (Option (Slot G))) (id : List ℕ) (k : ℕ) (slot : Slot G) → IsOnly (ids_of keys) id slots k slot
      → with_id id (contents_of keys slots) ≡ Some (feature_of (ids_of keys) k slot)
  with_id-only keys slots id k slot only = find-only (ids_of keys) id 0 slots k slot only ∙ ap (λ n. Some (feature_of (ids_of keys) n slot)) (zero-add k)

  -- what a look-up by id answers where a slice shows the slots
  pub sees_none : (seen : List (Option (Slot G))) (keys : List Id) (slots : List (Option (Slot G))) (id : List ℕ) → seen ≡ slots
      → IsAbsent (ids_of keys) id seen → with_id id (contents_of keys slots) ≡ None
  sees_none seen keys slots id same absent = with_id-absent keys slots id (subst (IsAbsent (ids_of keys) id) same absent)

  pub sees_one : (seen : List (Option (Slot G))) (keys : List Id) (slots : List (Option (Slot G))) (id : List ℕ) (k : ℕ) (slot : Slot G) → seen ≡ slots
      → IsOnly (ids_of keys) id seen k slot → with_id id (contents_of keys slots) ≡ Some (feature_of (ids_of keys) k slot)
  sees_one seen keys slots id k slot same only =
      with_id-only keys slots id k slot (subst (λ (ss : List (Option (Slot G))). IsOnly (ids_of keys) id ss k slot) same only)

  -- a deletion by id
  pub deleted-absent : (keys : List Id) (slots : List (Option (Slot G))) (id : List ℕ) → IsAbsent (ids_of keys) id slots
      → deleted (contents_of keys slots) id ≡ contents_of keys slots
  deleted-absent keys slots id absent = ap (λ fs. record { features = fs; next = length slots }) (filter-absent (ids_of keys) id 0 slots absent)

  pub deleted-only : (keys : List Id) (slots : List (Option (Slot G))) (id : List ℕ) (k : ℕ) (slot : Slot G) → IsOnly (ids_of keys) id slots k slot
      → deleted (contents_of keys slots) id ≡ contents_of keys (set slots k None)
  deleted-only keys slots id k slot only = (λ i. record { features = filter-only (ids_of keys) id 0 slots k slot only i; next = sym (length-set slots k None) i })

  pub AreInverse-deleted : (es : List (Id × Option ℕ)) (slots : List (Option (Slot G))) (k : ℕ) (slot : Slot G) → AreInverse (values_of es) slots
      → slice_get slots k ≡ Some (Some slot) → slice_get (values_of es) slot.place ≡ Some (Some k)
      → AreInverse (values_of (set_value_at es slot.place None)) (set slots k None)
  AreInverse-deleted es slots k slot table here held =
      let written = values-set es slot.place None in
      let within = slice_get_within (values_of es) slot.place (Some k) held in
      AreInverse-delete (values_of es) (values_of (set_value_at es slot.place None)) slots slot.place table
      (λ q d. rw written (get-set_other (values_of es) slot.place q None d))
      k (place_of slots k slot here) (rw written (get-set_at (values_of es) slot.place None within))

  -- the map and the slots after a deletion, of which there was something to delete
  pub StandForLayer-deleted : (es : List (Id × Option ℕ)) (slots : List (Option (Slot G))) (count k : ℕ) (slot : Slot G) → StandForLayer es slots count
      → slice_get slots k ≡ Some (Some slot) → slice_get (values_of es) slot.place ≡ Some (Some k)
      → (0 < count) × StandForLayer (set_value_at es slot.place None) (set slots k None) (count - 1)
  StandForLayer-deleted es slots count k slot kept here held = (
    omega (arith, less, kept.counted),
    record {
      table = AreInverse-deleted es slots k slot kept.table here held;
      distinct = rw (keys-set es slot.place None) kept.distinct;
      counted = rw (keys-set es slot.place None) (omega (arith, less, kept.counted));
    },
  )
    where
      less : length (features_from (ids_of (keys_of es)) 0 (set slots k None)) + 1 ≡ length (features_from (ids_of (keys_of es)) 0 slots)
      less = length-features_without (ids_of (keys_of es)) 0 slots k slot here

  -- an id that the map doesn't have has no feature
  pub with_id-missing : (es : List (Id × Option ℕ)) (slots : List (Option (Slot G))) → AreInverse (values_of es) slots → (k : Id)
      → lookup (id_eq k) es ≡ None → with_id (id_bytes k) (contents_of (keys_of es) slots) ≡ None
  with_id-missing es slots table k missing = by (position (id_eq k) (keys_of es)) refl
    where
      by : (r : Option ℕ) → position (id_eq k) (keys_of es) ≡ r → with_id (id_bytes k) (contents_of (keys_of es) slots) ≡ None
      by None none = with_id-absent (keys_of es) slots (id_bytes k) (absent_from_missing es slots table (id_bytes k) none)
      by (Some i) found =
          let place = Found-position (id_eq k) es i found in
          let old = get-within (values_of es) i (let within = place.within in omega (arith, length-values_of es)) in
          let held : lookup (id_eq k) es ≡ Some old.0 = place.value ∙ old.1 in
          cc

  -- what becomes of the layer then
  pub record InsertsNew (es es' : List (Id × Option ℕ)) (slots : List (Option (Slot G))) (count : ℕ) (id : List ℕ) (slot : Slot G) : Type 0 where
    pub kept : StandForLayer es' (slots ++ Some slot ∷ []) (count + 1)
    pub absent : with_id id (contents_of (keys_of es) slots) ≡ None
    pub grows : contents_of (keys_of es') (slots ++ Some slot ∷ []) ≡ inserted (contents_of (keys_of es) slots) id slot.shape

  module _ (es : List (Id × Option ℕ)) (slots : List (Option (Slot G))) (count : ℕ) (kept : StandForLayer es slots count) (k : Id)
      (slot : Slot G) where
    given_new : (v : Option ℕ) → position (id_eq k) (keys_of es) ≡ None → slot.place ≡ position_or_len (id_eq k) (keys_of es)
        → IsGiven es (insert_entry id_eq es k v) k v slot.place
    given_new v none at = record {
      numbered = rw (values, last) (get-push_at (values_of es) v);
      others = λ q d. rw values (get-push_other (values_of es) v q (λ e. d (e ∙ sym last)));
      free = λ n h. let past = slice_get_past (values_of es) slot.place (omega (arith, last)) in cc;
      id = rw (ids, last_id) (get_or-append_seam (ids_of (keys_of es)) (id_bytes k) [] []);
      more = (id_bytes k ∷ [], ids);
    }
      where
        pushed : insert_entry id_eq es k v ≡ es ++ (k, v) ∷ []
        pushed = insert_entry-absent id_eq k v es (Missing-position (id_eq k) es none).absent

        values : values_of (insert_entry id_eq es k v) ≡ values_of es ++ v ∷ []
        values = ap values_of pushed ∙ map-append (λ e. e.1) es ((k, v) ∷ [])

        ids : ids_of (keys_of (insert_entry id_eq es k v)) ≡ ids_of (keys_of es) ++ id_bytes k ∷ []
        ids = ap (λ l. ids_of (keys_of l)) pushed ∙ ap ids_of (map-append (λ e. e.0) es ((k, v) ∷ [])) ∙ map-append id_bytes (keys_of es) (k ∷ [])

        last : slot.place ≡ length (values_of es)
        last = at ∙ (Missing-position (id_eq k) es none).or_len ∙ sym (length-values_of es)

        last_id : slot.place ≡ length (ids_of (keys_of es))
        last_id = at ∙ (Missing-position (id_eq k) es none).or_len ∙ sym (length-keys_of es) ∙ sym (length-map (keys_of es) id_bytes)

    given_deleted : (v : Option ℕ) → (i : ℕ) → position (id_eq k) (keys_of es) ≡ Some i → slot.place ≡ i → slice_get (values_of es) i ≡ Some None
        → IsGiven es (insert_entry id_eq es k v) k v slot.place
    given_deleted v i found at gone = rw at (record {
      numbered = rw values (get-set_at (values_of es) i v (slice_get_within (values_of es) i None gone));
      others = λ q d. rw values (get-set_other (values_of es) i q v d);
      free = λ n h. cc;
      id =
          rw keys (get_or_from_slice_get (ids_of (keys_of es)) i (id_bytes k) []
          (slice_get-map id_bytes (keys_of es) i ∙ ap (option_map id_bytes) key.1 ∙ ap Some (sym same)));
      more = ([], ap ids_of keys ∙ sym (append-nil (ids_of (keys_of es))));
    })
      where
        written : insert_entry id_eq es k v ≡ set_value_at es i v
        written = insert_entry-first id_eq k v es i (Found-position (id_eq k) es i found).first

        values : values_of (insert_entry id_eq es k v) ≡ set (values_of es) i v
        values = ap values_of written ∙ values-set es i v

        keys : keys_of (insert_entry id_eq es k v) ≡ keys_of es
        keys = ap keys_of written ∙ keys-set es i v

        key : (key : Id) × (slice_get (keys_of es) i ≡ Some key) × (has_text (id_bytes k) key ≡ true)
        key = first_key es slots kept.table (id_bytes k) i found

        same : id_bytes k ≡ id_bytes key.0
        same = (bytes_eq-Decides (id_bytes k) (id_bytes key.0)).0 key.2

    inserts_given : (es' : List (Id × Option ℕ)) → IsGiven es es' k (Some (length slots)) slot.place
        → IsAbsent (ids_of (keys_of es)) (id_bytes k) slots → IsDistinct id_eq (keys_of es') → length slots < most_features
        → InsertsNew es es' slots count (id_bytes k) slot
    inserts_given es' given absent distinct room = record {
      kept = record { table = table; distinct = distinct; counted = counted };
      absent = with_id-absent (keys_of es) slots (id_bytes k) absent;
      grows = grows;
    }
      where
        table : AreInverse (values_of es') (slots ++ Some slot ∷ [])
        table = AreInverse-push (values_of es) (values_of es') slots slot.place kept.table given.others slot refl given.numbered given.free room

        within : (n : ℕ) (s : Slot G) → slice_get slots n ≡ Some (Some s) → s.place < length (ids_of (keys_of es))
        within n s h =
            let number = kept.table.numbered s.place n (place_of slots n s h) in
            omega (
              arith,
              slice_get_within (values_of es) s.place (Some n) number,
              length-keys_of es,
              length-values_of es,
              length-map (keys_of es) id_bytes,
            )

        others : features_from (ids_of (keys_of es')) 0 slots ≡ features_from (ids_of (keys_of es)) 0 slots
        others = ap (λ l. features_from l 0 slots) given.more.1 ∙ features-more_ids (ids_of (keys_of es)) given.more.0 0 slots within

        features : features_from (ids_of (keys_of es')) 0 (slots ++ Some slot ∷ []) ≡ features_from
            (ids_of (keys_of es)) 0 slots ++ record { id = id_bytes k; number = length slots; shape = slot.shape } ∷ []
        features =
            features-push (ids_of (keys_of es')) 0 slots slot
            ∙ (λ i. others i ++ record { id = given.id i; number = zero-add (length slots) i; shape = slot.shape } ∷ [])

        grows : contents_of (keys_of es') (slots ++ Some slot ∷ []) ≡ inserted (contents_of (keys_of es) slots) (id_bytes k) slot.shape
        grows = λ i. record { features = features i; next = length-append slots (Some slot ∷ []) i }

        counted : count + 1 ≡ length (features_from (ids_of (keys_of es')) 0 (slots ++ Some slot ∷ []))
        counted =
            ap (λ n. n + 1) kept.counted ∙ sym (ap length features
            ∙ length-append (features_from (ids_of (keys_of es)) 0 slots) (record { id = id_bytes k; number = length slots; shape = slot.shape } ∷ []))

    overwritten : (v : Option ℕ) (i : ℕ) → position (id_eq k) (keys_of es) ≡ Some i → insert_entry id_eq es k v ≡ set_value_at es i v
    overwritten v i found = insert_entry-first id_eq k v es i (Found-position (id_eq k) es i found).first

    -- an insertion under an id that has no feature
    pub inserts_new : (v : Option ℕ) → v ≡ Some (length slots) → slot.place ≡ position_or_len (id_eq k) (keys_of es)
        → IsDistinct id_eq (keys_of (insert_entry id_eq es k v)) → option_flatten (lookup (id_eq k) es) ≡ None → length slots < most_features
        → InsertsNew es (insert_entry id_eq es k v) slots count (id_bytes k) slot
    inserts_new v number at distinct free room = by (position (id_eq k) (keys_of es)) refl
      where
        by : (r : Option ℕ) → position (id_eq k) (keys_of es) ≡ r → InsertsNew es (insert_entry id_eq es k v) slots count (id_bytes k) slot
        by None none =
            let given = rw number at (given_new v none at) in
            rw number (inserts_given (insert_entry id_eq es k (Some (length slots))) given (absent_from_missing es slots kept.table (id_bytes k) none)
            (rw number at distinct) room)
        by (Some i) found =
            let place = Found-position (id_eq k) es i found in
            let old = get-within (values_of es) i (let within = place.within in omega (arith, length-values_of es)) in
            let held : lookup (id_eq k) es ≡ Some old.0 = place.value ∙ old.1 in
            let none : old.0 ≡ None = sym (ap option_flatten held) ∙ free in
            let gone : slice_get (values_of es) i ≡ Some None = old.1 ∙ ap Some none in
            let given = rw number at (given_deleted v i found (at ∙ place.or_len) gone) in
            rw number (inserts_given (insert_entry id_eq es k (Some (length slots))) given
            (absent_from_deleted es slots kept.table (id_bytes k) kept.distinct i found gone) (rw number at distinct) room)

    -- and under one that has one: what was overwritten is written back
    pub inserts_double : (v : Option ℕ) (live : ℕ) → slot.place ≡ position_or_len (id_eq k) (keys_of es) → Some live ≡ option_flatten
        (lookup (id_eq k) es) → (set_value_at (insert_entry id_eq es k v) slot.place (Some live) ≡ es) ×
        (is_some (with_id (id_bytes k) (contents_of (keys_of es) slots)) ≡ true)
    inserts_double v live at held = by (position (id_eq k) (keys_of es)) refl
      where
        by : (r : Option ℕ) → position (id_eq k) (keys_of es) ≡ r → (set_value_at (insert_entry id_eq es k v) slot.place (Some live) ≡ es) ×
            (is_some (with_id (id_bytes k) (contents_of (keys_of es) slots)) ≡ true)
        by None none = let gone : Some live ≡ None = held ∙ ap option_flatten (Missing-position (id_eq k) es none).value in cc
        by (Some i) found =
            let place = Found-position (id_eq k) es i found in
            let old = get-within (values_of es) i (let within = place.within in omega (arith, length-values_of es)) in
            let is : old.0 ≡ Some live = sym (held ∙ ap option_flatten (place.value ∙ old.1)) in
            let here : slice_get (values_of es) i ≡ Some (Some live) = old.1 ∙ ap Some is in
            let filled = slot_from_number es slots kept.table (id_bytes k) i live here in
            let only = only_from_found es slots kept.table (id_bytes k) kept.distinct i live filled.0 found here filled.1 in
            let same : slot.place ≡ i = at ∙ place.or_len in (
              (λ j. set_value_at (overwritten v i found j) (same j) (Some live)) ∙ set-back es i v (Some live) here,
              ap is_some (with_id-only (keys_of es) slots (id_bytes k) live filled.0 only),
            )

  pub not_filled : (slots : List (Option (Slot G))) (k : ℕ) (slot : Slot G) → None ≡ option_flatten (slice_get slots k) → slice_get slots k ≡ Some (Some slot) → ⊥
  not_filled slots k slot h is = let none = rw is at h in cc
