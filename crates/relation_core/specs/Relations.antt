-- Relations of two shapes: their names, their masks, when they hold, and which of them hold for
-- disjoint shapes.
use Rattle.std.specs.Prelude.{◌≡◌, ⊤, ℕ, ◌==◌, ◌&&◌, ◌⊎◌, nat_lt, if◌then◌else◌, List, [], ◌∷◌}
use Rattle.std.specs.Prelude.{codes}
use Rattle.std.specs.Str.{str_to_ascii_lowercase}
use Rattle.relation_core.specs.declared.extent.Extent.TheVariants.{Empty, Point, Line}
use Rattle.relation_core.specs.declared.part.Parts.{Parts}
use Rattle.relation_core.specs.declared.matrix.Matrix.{Matrix}
use Rattle.geom_core.specs.declared.shape.Shape.{Shape}
use Rattle.relation_core.specs.declared.pattern_value.PatternValue.{PatternValue}
use Rattle.relation_core.specs.declared.pattern_value.PatternValue.TheVariants.{Any, NotEmpty}
use Rattle.relation_core.specs.declared.pattern_value.PatternValue.TheVariants.{Exactly}
use Rattle.relation_core.specs.declared.mask.Mask.{Mask as MaskType}
use Rattle.relation_core.specs.declared.relation.Relation.{Relation}
use Rattle.relation_core.specs.declared.relation.Relation.TheVariants.{Mask, Disjoint, Intersects}
use Rattle.relation_core.specs.declared.relation.Relation.TheVariants.{Touches, Crosses, Within}
use Rattle.relation_core.specs.declared.relation.Relation.TheVariants.{Contains, Overlaps, Equals}
use Rattle.relation_core.specs.declared.relation.Relation.TheVariants.{Covers, CoveredBy}
use Rattle.relation_core.specs.declared.relation.Relation.TheVariants.{ContainsProperly}
use Rattle.geom_core.specs.Cells.{IsIn, Meets}
use Rattle.geom_core.specs.Sets.{AreTouching, LiesInside, LiesWithin, AreSameSet}
use Rattle.geom_core.specs.Shapes.{dim_of}
use Rattle.relation_core.specs.Matrices.{IsMatrix}
use Rattle.relation_core.specs.Masks.{Fits, SpellsMask, row}

-- the text is the name of the relation, in any case, or spells its mask
abbrev pub Spells : Relation → List ℕ → Type 0
Spells (Mask mask) text = SpellsMask text mask
Spells Disjoint text = str_to_ascii_lowercase text ≡ codes "disjoint"
Spells Intersects text = str_to_ascii_lowercase text ≡ codes "intersects"
Spells Touches text = str_to_ascii_lowercase text ≡ codes "touches"
Spells Crosses text = str_to_ascii_lowercase text ≡ codes "crosses"
Spells Within text = str_to_ascii_lowercase text ≡ codes "within"
Spells Contains text = str_to_ascii_lowercase text ≡ codes "contains"
Spells Overlaps text = str_to_ascii_lowercase text ≡ codes "overlaps"
Spells Equals text = str_to_ascii_lowercase text ≡ codes "equals"
Spells Covers text = str_to_ascii_lowercase text ≡ codes "covers"
Spells CoveredBy text = str_to_ascii_lowercase text ≡ codes "covered_by"
Spells ContainsProperly text = str_to_ascii_lowercase text ≡ codes "contains_properly"

-- the text is no name and spells no mask
abbrev pub SpellsNothing : List ℕ → Type 0
SpellsNothing text = (relation : Relation) → ¬ (Spells relation text)

-- the relation has a name
abbrev pub IsNamed : Relation → Type 0
IsNamed (Mask mask) = ⊥
IsNamed Disjoint = ⊤
IsNamed Intersects = ⊤
IsNamed Touches = ⊤
IsNamed Crosses = ⊤
IsNamed Within = ⊤
IsNamed Contains = ⊤
IsNamed Overlaps = ⊤
IsNamed Equals = ⊤
IsNamed Covers = ⊤
IsNamed CoveredBy = ⊤
IsNamed ContainsProperly = ⊤

-- the letters of the masks below
abbrev any : PatternValue
any = Any

abbrev T : PatternValue
T = NotEmpty

abbrev F : PatternValue
F = Exactly Empty

abbrev zero_dim : PatternValue
zero_dim = Exactly Point

abbrev one_dim : PatternValue
one_dim = Exactly Line

abbrev pub mask : Parts PatternValue → Parts PatternValue → Parts PatternValue → MaskType
mask i b e = record { rows = record { interior = i; boundary = b; exterior = e } }

-- nothing of the second is in the exterior of the first, and both share something
abbrev pub covers_masks : List MaskType
covers_masks =
    mask (row T any any) (row any any any) (row F F any)
    ∷ mask (row any T any) (row any any any) (row F F any)
    ∷ mask (row any any any) (row T any any) (row F F any)
    ∷ mask (row any any any) (row any T any) (row F F any)
    ∷ []

-- nothing of the first is in the exterior of the second, and both share something
abbrev pub covered_by_masks : List MaskType
covered_by_masks =
    mask (row T any F) (row any any F) (row any any any)
    ∷ mask (row any T F) (row any any F) (row any any any)
    ∷ mask (row any any F) (row T any F) (row any any any)
    ∷ mask (row any any F) (row any T F) (row any any any)
    ∷ []

-- the masks of a relation for the dimensions of two shapes
abbrev pub masks : Relation → ℕ → ℕ → List MaskType
masks (Mask m) da db = m ∷ []
masks Disjoint da db = mask (row F F any) (row F F any) (row any any any) ∷ []
masks Intersects da db =
    mask (row T any any) (row any any any) (row any any any)
    ∷ mask (row any T any) (row any any any) (row any any any)
    ∷ mask (row any any any) (row T any any) (row any any any)
    ∷ mask (row any any any) (row any T any) (row any any any)
    ∷ []
masks Touches da db =
    if (da == 0) && (db == 0) then []
    else (
    mask (row F T any) (row any any any) (row any any any)
    ∷ mask (row F any any) (row T any any) (row any any any)
    ∷ mask (row F any any) (row any T any) (row any any any)
    ∷ []
    )
masks Crosses da db =
    if nat_lt da db then mask (row T any T) (row any any any) (row any any any) ∷ []
    else (
    if nat_lt db da then mask (row T any any) (row any any any) (row T any any) ∷ []
    else (
    if da == 1 then mask (row zero_dim any any) (row any any any) (row any any any) ∷ []
    else []
    )
    )
masks Within da db = mask (row T any F) (row any any F) (row any any any) ∷ []
masks Contains da db = mask (row T any any) (row any any any) (row F F any) ∷ []
masks Overlaps da db =
    if da == db then (
    if da == 1 then mask (row one_dim any T) (row any any any) (row T any any) ∷ []
    else (mask (row T any T) (row any any any) (row T any any) ∷ [])
    )
    else []
masks Equals da db = mask (row T any F) (row any any F) (row F F any) ∷ []
masks Covers da db = covers_masks
masks CoveredBy da db = covered_by_masks
masks ContainsProperly da db = mask (row T any any) (row F F any) (row F F any) ∷ []

-- one of the masks fits
abbrev pub FitsOne : List MaskType → Matrix → Type 0
FitsOne [] matrix = ⊥
FitsOne (m ∷ ms) matrix = Fits m matrix ⊎ FitsOne ms matrix

-- one of the masks for the two dimensions fits the matrix of the two shapes
pub record Holds (relation : Relation) (a b : Shape) : Type 0 where
  pub matrix : Matrix
  pub is : IsMatrix a b matrix
  pub fits : FitsOne (masks relation (dim_of a) (dim_of b)) matrix

-- the relation holds for some two shapes without a common cell
abbrev pub HoldsForDisjoint : Relation → Type 0
HoldsForDisjoint relation = (a : Shape) × (b : Shape) × ¬ (Meets a b) × Holds relation a b

-- the relation holds for no two shapes without a common cell
abbrev pub ForbidsDisjoint : Relation → Type 0
ForbidsDisjoint relation = (a b : Shape) → ¬ (Meets a b) → ¬ (Holds relation a b)

-- the meaning of a relation for two sets; masks, crosses and overlaps are defined by the matrix
-- alone
abbrev pub HoldsOfSets : Relation → Shape → Shape → Type 0
HoldsOfSets (Mask mask) a b = Holds (Mask mask) a b
HoldsOfSets Disjoint a b = ¬ (Meets a b)
HoldsOfSets Intersects a b = Meets a b
HoldsOfSets Touches a b = AreTouching a b
HoldsOfSets Crosses a b = Holds Crosses a b
HoldsOfSets Within a b = LiesWithin a b
HoldsOfSets Contains a b = LiesWithin b a
HoldsOfSets Overlaps a b = Holds Overlaps a b
HoldsOfSets Equals a b = AreSameSet a b
HoldsOfSets Covers a b = IsIn b a
HoldsOfSets CoveredBy a b = IsIn a b
HoldsOfSets ContainsProperly a b = LiesInside b a
