-- The measures of covers, and the choices of Guttman's insertion by them.
use Rattle.std.specs.Prelude.{◌≡◌, ℕ, ◌-◌, ◌<◌, ◌⊎◌, ℤ, pos, ◌-ℤ◌, ◌≤ℤ◌, ◌<ℤ◌, Bool, List, length}
use Rattle.std.specs.Prelude.{slice_index_or}
use Rattle.std.specs.List.{IsFirstBest, IsFirstMaxByKey}
use Rattle.std.specs.Int.{abs_diff}
use Rattle.std.specs.Ordering.{nat_cmp, ordering_then, is_lt}
use Rattle.std.specs.declared.cmp.Ordering.{Ordering}
use Rattle.geom_core.specs.declared.shape.Shape.{Shape}
use Rattle.geom_core.specs.Shapes.{area_of, cover_of}

-- the increase in a cover's area if it includes a shape
abbrev pub enlargement : Shape → Shape → ℕ
enlargement c s = area_of (cover_of c s) - area_of c

-- the area of the cover of two shapes minus their own areas
abbrev pub waste : Shape → Shape → ℤ
waste a b = (pos (area_of (cover_of a b)) -ℤ pos (area_of a)) -ℤ pos (area_of b)

-- compares two covers by their enlargement by a shape, and then by area
abbrev pub by_need : Shape → Shape → Shape → Ordering
by_need s a b =
    ordering_then (nat_cmp (enlargement a s) (enlargement b s)) (nat_cmp (area_of a) (area_of b))

-- whether the first of two covers is the better one for a shape
abbrev pub needs_less : Shape → Shape → Shape → Bool
needs_less s a b = is_lt (by_need s a b)

-- the first index of those whose cover needs the least for a shape
abbrev pub IsChoice : {T : Type 0} → (T → Shape) → List T → Shape → ℕ → Type 0
IsChoice cover items s r =
    IsFirstBest (λ x y. needs_less s (cover x) (cover y)) items (length items) r

-- the difference between the enlargements of two covers by a shape
abbrev pub difference : Shape → Shape → Shape → ℕ
difference one two s = abs_diff (enlargement one s) (enlargement two s)

-- the first index of those for which the choice between two covers matters most
abbrev pub IsNext : {T : Type 0} → (T → Shape) → List T → Shape → Shape → ℕ → Type 0
IsNext cover items one two r =
    IsFirstMaxByKey (λ x. difference one two (cover x)) items (length items) r

-- the waste of the items at two indexes; d is used past the end
abbrev pub waste_at : {T : Type 0} → (T → Shape) → List T → T → ℕ → ℕ → ℤ
waste_at cover items d i j =
    waste (cover (slice_index_or items i d)) (cover (slice_index_or items j d))

-- the pair of indexes (k, l) precedes (i, j)
abbrev pub IsBefore : ℕ → ℕ → ℕ → ℕ → Type 0
IsBefore k l i j = (k < i) ⊎ ((k ≡ i) × (l < j))

-- the first pair of indexes with the greatest waste
pub record AreSeeds {T : Type 0} (cover : T → Shape) (items : List T) (i j : ℕ) : Type 0 where
  pub ordered : i < j
  pub in_range : j < length items
  pub greatest : (d : T) (k l : ℕ) → k < l → l < length items →
      waste_at cover items d k l ≤ℤ waste_at cover items d i j
  pub first : (d : T) (k l : ℕ) → k < l → l < length items → IsBefore k l i j →
      waste_at cover items d k l <ℤ waste_at cover items d i j
