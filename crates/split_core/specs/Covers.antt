-- The cover of a list of items that have covers.
use Rattle.std.specs.Prelude.{List, All}
use Rattle.geom_core.specs.declared.shape.Shape.{Shape}
use Rattle.geom_core.specs.Cells.{IsIn}

-- the smallest shape that contains all items' covers
pub record IsLeastCover {T : Type 0} (cover : T → Shape) (items : List T) (c : Shape) : Type 0 where
  pub contains : All (λ x. IsIn (cover x) c) items
  pub least : (s : Shape) → All (λ x. IsIn (cover x) s) items → IsIn c s
