-- The lemmas by which the search proves a function, where it takes several.
use Rattle.std.proofs.Common.{◌≡◌, ℕ, ◌+◌, ◌<◌, List, [], ◌++◌, Option, set, get_or, length, refl, sym}
use Rattle.std.specs.List.{IsDistinct}
use Rattle.std.specs.Map.{keys_of}
use Rattle.indexmap.specs.IndexMap.{set_value_at}
use Rattle.layer_edit_core.proofs.IdLemmas.{AreApart-empty, AreApart-set_sooner, AreApart-set_later, set-entry, set-sooner, set-later}
use Rattle.layer_core.specs.declared.id.Id.{Id}
use Rattle.layer_core.specs.Ids.{id_eq}
use Rattle.layer_edit_core.specs.RisingIds.{AreApart, Rises}

pub rises_empty : (xs : List (Id × Option ℕ)) → xs ≡ [] → Rises xs
rises_empty xs none = (AreApart-empty xs [] none refl).rises

pub distinct_empty : (xs ys : List (Id × Option ℕ)) → xs ≡ [] → ys ≡ [] → IsDistinct id_eq (keys_of (xs ++ ys))
distinct_empty xs ys none others = (AreApart-empty xs ys none others).distinct

pub ruleset no_ids = (rises_empty, distinct_empty)

module _ (xs ys : List (Id × Option ℕ)) (i : ℕ) (e : Id × Option ℕ) (w : Option ℕ) where
  pub rises_sooner : AreApart xs ys → e ≡ get_or xs i e → Rises (set xs i (e.0, w))
  rises_sooner apart is = rw (set-entry xs i e w is) (AreApart-set_sooner xs ys apart i w).rises

  pub distinct_sooner : AreApart xs ys → e ≡ get_or xs i e → IsDistinct id_eq (keys_of (set xs i (e.0, w) ++ ys))
  distinct_sooner apart is = rw (set-entry xs i e w is) (AreApart-set_sooner xs ys apart i w).distinct

  pub both_sooner : (es : List (Id × Option ℕ)) → xs ++ ys ≡ es → e ≡ get_or xs i e → i < length xs
      → set xs i (e.0, w) ++ ys ≡ set_value_at es i w
  both_sooner es are is within = rw (set-entry xs i e w is, ← are) (sym (set-sooner xs ys i w within))

pub both_later : (xs ys es : List (Id × Option ℕ)) (i j : ℕ) (w : Option ℕ) → xs ++ ys ≡ es → length xs + j ≡ i
    → xs ++ set_value_at ys j w ≡ set_value_at es i w
both_later xs ys es i j w are at = rw (← are, ← at) (sym (set-later xs ys j w))

pub ruleset set_number = (rises_sooner, distinct_sooner, both_sooner, AreApart-set_later, both_later)
