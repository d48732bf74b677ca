-- The relations of two shapes as sets of cells.
use Rattle.std.specs.Prelude.{ℤ}
use Rattle.geom_core.specs.declared.shape.Shape.{Shape}
use Rattle.geom_core.specs.Cells.{Covers, IsInterior, Meets, IsIn}

-- some cell is in both interiors
abbrev pub InteriorsMeet : Shape → Shape → Type 0
InteriorsMeet a b = (u : ℤ) × (v : ℤ) × IsInterior a u v × IsInterior b u v

-- some cell is in both shapes, and none in both interiors
abbrev pub AreTouching : Shape → Shape → Type 0
AreTouching a b = Meets a b × ¬ (InteriorsMeet a b)

-- the first lies in the second, and some cell is in both interiors
abbrev pub LiesWithin : Shape → Shape → Type 0
LiesWithin a b = IsIn a b × InteriorsMeet a b

-- each lies in the other
abbrev pub AreSameSet : Shape → Shape → Type 0
AreSameSet a b = IsIn a b × IsIn b a

-- each cell of the first closed shape is in the interior of the second
abbrev pub LiesInside : Shape → Shape → Type 0
LiesInside a b = (u v : ℤ) → Covers a u v → IsInterior b u v
