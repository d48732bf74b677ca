-- The search for the seeds of a split.
use Rattle.std.specs.Prelude.{◌≡◌, ℕ, ◌<◌, ◌≤ℤ◌, ◌<ℤ◌, List, length}
use Rattle.geom_core.specs.declared.shape.Shape.{Shape}
use Rattle.split_core.specs.declared.choices.Seeds.{Seeds}
use Rattle.split_core.specs.Choices.{waste_at, IsBefore}

-- s is the first pair of the greatest waste among itself and the pairs before (i, j)
pub record IsBestBefore {T : Type 0} (cover : T → Shape) (items : List T) (i j : ℕ)
    (s : Seeds) : Type 0 where
  pub ordered : s.first < s.second
  pub in_range : s.second < length items
  pub waste : (d : T) → s.waste ≡ waste_at cover items d s.first s.second
  pub greatest : (d : T) (k l : ℕ) → k < l → l < length items → IsBefore k l i j →
      waste_at cover items d k l ≤ℤ s.waste
  pub first : (d : T) (k l : ℕ) → k < l → l < length items → IsBefore k l s.first s.second →
      waste_at cover items d k l <ℤ s.waste
