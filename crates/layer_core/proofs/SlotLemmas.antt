-- The features of a list of slots: which has a number, and in which order they stand.
use Rattle.std.proofs.Common.{◌≡◌, ◌≢◌, ◌==◌, ℕ, zero, suc, ◌+◌, ◌<◌, ◌≤◌, Bool, true, false, List, [], ◌∷◌, length, slice_get, Option, Some}
use Rattle.std.proofs.Common.{None, find, All, AllPairs, refl, sym, ap, ◌∙◌, arith, add-zero}
use Rattle.std.proofs.lemmas.List.Elements.{All-cons}
use Rattle.std.proofs.lemmas.List.Kept.{AllPairs-cons}
use Rattle.std.proofs.lemmas.Bool.Decides.{Decides-eqb}
use Rattle.layer_core.specs.declared.features.Slot.{Slot}
use Rattle.layer_core.specs.Layers.{Feature, has_number}
use Rattle.layer_core.specs.IdsAndSlots.{feature_of, features_from, id_of}

number_differs : (m n : ℕ) → m ≢ n → (m == n) ≡ false
number_differs m n d = by (m == n) refl
  where
    by : (b : Bool) → (m == n) ≡ b → b ≡ false
    by true e = absurd (d ((Decides-eqb m n).0 e))
    by false e = refl

module _ {G : Type 0} where
  -- the feature in a slot, if there is one
  abbrev pub feature_in : List (List ℕ) → ℕ → Option (Option (Slot G)) → Option (Feature G)
  feature_in ids number None = None
  feature_in ids number (Some None) = None
  feature_in ids number (Some (Some slot)) = Some (feature_of ids number slot)

  module _ (ids : List (List ℕ)) where
    find-number_below : (m n : ℕ) (slots : List (Option (Slot G))) → m < n → find (has_number m) (features_from ids n slots) ≡ None
    find-number_below m n [] h = refl
    find-number_below m n (None ∷ slots) h = find-number_below m (suc n) slots (omega arith)
    find-number_below m n (Some s ∷ slots) h = rw (number_differs m n (λ e. omega (arith, e))) (find-number_below m (suc n) slots (omega arith))

    number_later : (n : ℕ) (slots : List (Option (Slot G))) (k : ℕ)
        → find (has_number (suc n + k)) (features_from ids (suc n) slots) ≡ feature_in ids (suc n + k) (slice_get slots k)
        → find (has_number (n + suc k)) (features_from ids (suc n) slots) ≡ feature_in ids (n + suc k) (slice_get slots k)
    number_later n slots k h =
        let next : n + suc k ≡ suc n + k = omega arith in
        (λ i. find (has_number (next i)) (features_from ids (suc n) slots)) ∙ h ∙ ap (λ m. feature_in ids m (slice_get slots k)) (sym next)

    -- a look-up by number
    pub find-number : (n : ℕ) (slots : List (Option (Slot G))) (k : ℕ)
        → find (has_number (n + k)) (features_from ids n slots) ≡ feature_in ids (n + k) (slice_get slots k)
    find-number n [] k = refl
    find-number n (None ∷ slots) zero = find-number_below (n + 0) (suc n) slots (omega arith)
    find-number n (None ∷ slots) (suc k) = number_later n slots k (find-number (suc n) slots k)
    find-number n (Some s ∷ slots) zero = rw (add-zero n, (Decides-eqb n n).1 refl) refl
    find-number n (Some s ∷ slots) (suc k) =
        rw (number_differs (n + suc k) n (λ e. omega (arith, e))) (number_later n slots k (find-number (suc n) slots k))

    pub length-features-le : (n : ℕ) (slots : List (Option (Slot G))) → length (features_from ids n slots) ≤ length slots
    length-features-le n [] = omega arith
    length-features-le n (None ∷ slots) = let less = length-features-le (suc n) slots in omega arith
    length-features-le n (Some s ∷ slots) = let less = length-features-le (suc n) slots in omega arith

    numbers-from : (m n : ℕ) (slots : List (Option (Slot G))) → m < n → All (λ f. m < f.number) (features_from ids n slots)
    numbers-from m n [] h = λ k d out. absurd (omega arith)
    numbers-from m n (None ∷ slots) h = numbers-from m (suc n) slots (omega arith)
    numbers-from m n (Some s ∷ slots) h =
        All-cons (λ f. m < f.number) (feature_of ids n s) (features_from ids (suc n) slots) h (numbers-from m (suc n) slots (omega arith))

    -- the numbers rise, and are below the one behind the slots
    pub features-rising : (n : ℕ) (slots : List (Option (Slot G))) → AllPairs (λ f g. f.number < g.number) (features_from ids n slots)
    features-rising n [] = λ i j d below out. absurd (omega arith)
    features-rising n (None ∷ slots) = features-rising (suc n) slots
    features-rising n (Some s ∷ slots) =
        AllPairs-cons (λ f g. f.number < g.number) (feature_of ids n s) (features_from ids (suc n) slots) (numbers-from n (suc n) slots (omega arith))
        (features-rising (suc n) slots)

    pub numbers-below : (m n : ℕ) (slots : List (Option (Slot G))) → n + length slots ≤ m → All (λ f. f.number < m) (features_from ids n slots)
    numbers-below m n [] h = λ k d out. absurd (omega arith)
    numbers-below m n (None ∷ slots) h = numbers-below m (suc n) slots (omega arith)
    numbers-below m n (Some s ∷ slots) h =
        All-cons (λ f. f.number < m) (feature_of ids n s) (features_from ids (suc n) slots) (omega arith) (numbers-below m (suc n) slots (omega arith))

    ids-apart : (id : List ℕ) (n : ℕ) (slots : List (Option (Slot G))) → ((k : ℕ) (s : Slot G) → slice_get slots k ≡ Some (Some s) → id ≢ id_of ids s)
        → All (λ f. id ≢ f.id) (features_from ids n slots)
    ids-apart id n [] h = λ k d out. absurd (omega arith)
    ids-apart id n (None ∷ slots) h = ids-apart id (suc n) slots (λ k s e. h (suc k) s e)
    ids-apart id n (Some s ∷ slots) h =
        All-cons (λ f. id ≢ f.id) (feature_of ids n s) (features_from ids (suc n) slots) (h 0 s refl) (ids-apart id (suc n) slots (λ k s e. h (suc k) s e))

    -- the ids differ, where those of the slots do
    pub features-distinct : (n : ℕ) (slots : List (Option (Slot G)))
        → ((j k : ℕ) (s t : Slot G) → slice_get slots j ≡ Some (Some s) → slice_get slots k ≡ Some (Some t) → id_of ids s ≡ id_of ids t → j ≡ k)
        → AllPairs (λ f g. f.id ≢ g.id) (features_from ids n slots)
    features-distinct n [] h = λ i j d below out. absurd (omega arith)
    features-distinct n (None ∷ slots) h = features-distinct (suc n) slots (λ j k s t a b e. let up = h (suc j) (suc k) s t a b e in omega arith)
    features-distinct n (Some s ∷ slots) h =
        AllPairs-cons (λ f g. f.id ≢ g.id) (feature_of ids n s) (features_from ids (suc n) slots)
        (ids-apart (id_of ids s) (suc n) slots (λ k t e same. let first = h 0 (suc k) s t refl e same in absurd (omega arith)))
        (features-distinct (suc n) slots (λ j k s t a b e. let up = h (suc j) (suc k) s t a b e in omega arith))
