-- The features of a list of slots, by id, and how they change with a slot.
use Rattle.std.proofs.Common.{◌≡◌, ℕ, zero, suc, ◌+◌, ◌<◌, Bool, true, false, not, List, [], ◌∷◌, ◌++◌, set, length, slice_get, Option, Some}
use Rattle.std.proofs.Common.{None, filter, find, refl, sym, ap, ◌∙◌, arith, add-zero}
use Rattle.std.specs.Str.{bytes_eq}
use Rattle.std.proofs.Math.ListN.{get_or-append}
use Rattle.layer_core.specs.declared.features.Slot.{Slot}
use Rattle.layer_core.specs.Layers.{has_id}
use Rattle.layer_core.specs.IdsAndSlots.{feature_of, features_from, id_of}
use Rattle.layer_edit_core.specs.FeaturesById.{IsAbsent, IsOnly}

module _ {G : Type 0} where
  module _ (ids : List (List ℕ)) (id : List ℕ) where
    absent_later : (x : Option (Slot G)) (slots : List (Option (Slot G))) → IsAbsent ids id (x ∷ slots) → IsAbsent ids id slots
    absent_later x slots a = record { differs = λ k s h. a.differs (suc k) s h }

    only_later : (x : Option (Slot G)) (slots : List (Option (Slot G))) (k : ℕ) (slot : Slot G) → IsOnly ids id (x ∷ slots) (suc k) slot → IsOnly ids id slots k slot
    only_later x slots k slot o = record {
      here = o.here;
      same = o.same;
      only = λ j s h e. let next : suc j ≡ suc k = o.only (suc j) s h e in omega arith;
    }

    none_later : (x : Option (Slot G)) (slots : List (Option (Slot G))) (slot : Slot G) → IsOnly ids id (x ∷ slots) 0 slot → IsAbsent ids id slots
    none_later x slots slot o = record { differs = λ k s h. by k s h (bytes_eq id (id_of ids s)) refl }
      where
        by : (k : ℕ) (s : Slot G) → slice_get slots k ≡ Some (Some s) → (b : Bool) → bytes_eq id (id_of ids s) ≡ b → b ≡ false
        by k s h true e = let first : suc k ≡ 0 = o.only (suc k) s h e in absurd (omega arith)
        by k s h false e = refl

    differs_before : (s : Slot G) (slots : List (Option (Slot G))) (k : ℕ) (slot : Slot G) → IsOnly ids id (Some s ∷ slots) (suc k) slot
        → bytes_eq id (id_of ids s) ≡ false
    differs_before s slots k slot o = by (bytes_eq id (id_of ids s)) refl
      where
        by : (b : Bool) → bytes_eq id (id_of ids s) ≡ b → b ≡ false
        by true e = let first : 0 ≡ suc k = o.only 0 s refl e in absurd (omega arith)
        by false e = refl

    -- a look-up by id
    pub find-absent : (n : ℕ) (slots : List (Option (Slot G))) → IsAbsent ids id slots → find (has_id id) (features_from ids n slots) ≡ None
    find-absent n [] a = refl
    find-absent n (None ∷ slots) a = find-absent (suc n) slots (absent_later None slots a)
    find-absent n (Some s ∷ slots) a = rw (a.differs 0 s refl) (find-absent (suc n) slots (absent_later (Some s) slots a))

    pub find-only : (n : ℕ) (slots : List (Option (Slot G))) (k : ℕ) (slot : Slot G) → IsOnly ids id slots k slot
        → find (has_id id) (features_from ids n slots) ≡ Some (feature_of ids (n + k) slot)
    find-only n [] k slot o = let h = o.here in cc
    find-only n (None ∷ slots) zero slot o = let h = o.here in cc
    find-only n (None ∷ slots) (suc k) slot o =
        find-only (suc n) slots k slot (only_later None slots k slot o) ∙ ap (λ m. Some (feature_of ids m slot)) (omega arith)
    find-only n (Some s ∷ slots) zero slot o =
        let is : s ≡ slot = let h = o.here in cc in
        let test : bytes_eq id (id_of ids s) ≡ true = rw is o.same in
        rw test (ap Some (λ i. feature_of ids (sym (add-zero n) i) (is i)))
    find-only n (Some s ∷ slots) (suc k) slot o =
        rw (differs_before s slots k slot o)
        (find-only (suc n) slots k slot (only_later (Some s) slots k slot o) ∙ ap (λ m. Some (feature_of ids m slot)) (omega arith))

    -- what is left without an id
    pub filter-absent : (n : ℕ) (slots : List (Option (Slot G))) → IsAbsent ids id slots
        → filter (λ f. not (has_id id f)) (features_from ids n slots) ≡ features_from ids n slots
    filter-absent n [] a = refl
    filter-absent n (None ∷ slots) a = filter-absent (suc n) slots (absent_later None slots a)
    filter-absent n (Some s ∷ slots) a =
        rw (a.differs 0 s refl) (ap (λ fs. feature_of ids n s ∷ fs) (filter-absent (suc n) slots (absent_later (Some s) slots a)))

    pub filter-only : (n : ℕ) (slots : List (Option (Slot G))) (k : ℕ) (slot : Slot G) → IsOnly ids id slots k slot
        → filter (λ f. not (has_id id f)) (features_from ids n slots) ≡ features_from ids n (set slots k None)
    filter-only n [] k slot o = let h = o.here in cc
    filter-only n (None ∷ slots) zero slot o = let h = o.here in cc
    filter-only n (None ∷ slots) (suc k) slot o = filter-only (suc n) slots k slot (only_later None slots k slot o)
    filter-only n (Some s ∷ slots) zero slot o =
        let is : s ≡ slot = let h = o.here in cc in
        let test : bytes_eq id (id_of ids s) ≡ true = rw is o.same in
        rw test (filter-absent (suc n) slots (none_later (Some s) slots slot o))
    filter-only n (Some s ∷ slots) (suc k) slot o =
        rw (differs_before s slots k slot o) (ap (λ fs. feature_of ids n s ∷ fs) (filter-only (suc n) slots k slot (only_later (Some s) slots k slot o)))

  module _ (ids : List (List ℕ)) where
    -- one slot more
    pub features-push : (n : ℕ) (slots : List (Option (Slot G))) (slot : Slot G)
        → features_from ids n (slots ++ Some slot ∷ []) ≡ features_from ids n slots ++ feature_of ids (n + length slots) slot ∷ []
    features-push n [] slot = ap (λ m. feature_of ids m slot ∷ []) (sym (add-zero n))
    features-push n (None ∷ slots) slot = features-push (suc n) slots slot ∙ ap (λ m. features_from ids (suc n) slots ++ feature_of ids m slot ∷ []) (omega arith)
    features-push n (Some s ∷ slots) slot =
        ap (λ fs. feature_of ids n s ∷ fs)
        (features-push (suc n) slots slot ∙ ap (λ m. features_from ids (suc n) slots ++ feature_of ids m slot ∷ []) (omega arith))

    -- more ids behind those that the slots name
    pub features-more_ids : (more : List (List ℕ)) (n : ℕ) (slots : List (Option (Slot G)))
        → ((k : ℕ) (s : Slot G) → slice_get slots k ≡ Some (Some s) → s.place < length ids) → features_from (ids ++ more) n slots ≡ features_from ids n slots
    features-more_ids more n [] h = refl
    features-more_ids more n (None ∷ slots) h = features-more_ids more (suc n) slots (λ k s e. h (suc k) s e)
    features-more_ids more n (Some s ∷ slots) h =
        (λ i. record { id = get_or-append ids more [] s.place (h 0 s refl) i; number = n; shape = s.shape } ∷ features-more_ids more (suc n) slots
        (λ k s e. h (suc k) s e) i)

  module _ (ids : List (List ℕ)) where
    -- one slot less
    pub length-features_without : (n : ℕ) (slots : List (Option (Slot G))) (k : ℕ) (slot : Slot G) → slice_get slots k ≡ Some (Some slot)
        → length (features_from ids n (set slots k None)) + 1 ≡ length (features_from ids n slots)
    length-features_without n [] k slot h = cc
    length-features_without n (None ∷ slots) zero slot h = cc
    length-features_without n (None ∷ slots) (suc k) slot h = length-features_without (suc n) slots k slot h
    length-features_without n (Some s ∷ slots) zero slot h = omega arith
    length-features_without n (Some s ∷ slots) (suc k) slot h = let less = length-features_without (suc n) slots k slot h in omega arith
