-- The sublist of the items that satisfy a condition, and the product of two lists.
use Rattle.std.specs.Prelude.{List, [], ◌∷◌, map}
use Rattle.std.specs.List.{flat_map}

-- the second list has the items of the first that satisfy P, in their order
pub data IsKept {T : Type 0} (P : T → Type 0) : List T → List T → Type 0 where
  none : IsKept P [] []
  kept : {x : T} {xs ys : List T} → P x → IsKept P xs ys → IsKept P (x ∷ xs) (x ∷ ys)
  left_out : {x : T} {xs ys : List T} → ¬ (P x) → IsKept P xs ys → IsKept P (x ∷ xs) ys

-- each item of the first list with each of the second: by the first's index, then the second's
abbrev pub pairs : {A B : Type 0} → List A → List B → List (A × B)
pairs xs ys = flat_map (λ x. map (λ y. (x, y)) ys) xs
