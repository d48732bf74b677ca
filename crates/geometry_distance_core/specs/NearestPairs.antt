-- The least squared distance of pairs of points, if it is at most the square of a distance.
use Rattle.std.specs.Prelude.{◌≡◌, ℕ, ◌*◌, ◌≤◌, ◌<◌, Bool, true, ◌||◌, ◌&&◌, List}
use Rattle.std.specs.Prelude.{Option, Some, None}
use Rattle.std.specs.List.{list_any, slice_index_or}
use Rattle.plane_core.specs.declared.edge.Edge.{Edge}
use Rattle.plane_core.specs.Points.{Point, is_on}
use Rattle.rtree_core.specs.declared.node.Entry.{Entry}
use Rattle.distance_core.specs.Units.{units_of}
use Rattle.distance_core.specs.Distances.{IsAtMost}
use Rattle.distance_core.specs.declared.fraction.SquaredFraction.{SquaredFraction}
use Rattle.distance_core.specs.Fractions.{IsNoFarther, IsNoNearer, numerator_of}
use Rattle.geometry_distance_core.specs.declared.nearest.Nearest.{Nearest}

-- a set of pairs of points
abbrev pub Pairs : Type 0
Pairs = Point → Point → Bool

-- the least squared distance of the pairs: one of them reaches it, and none is nearer
pub record IsLeastOf (square : SquaredFraction) (pairs : Pairs) : Type 0 where
  pub first : Point
  pub second : Point
  pub first_wide : 0 < first.w
  pub second_wide : 0 < second.w
  pub one : pairs first second ≡ true
  pub near : IsNoFarther (numerator_of square) square.denominator first second
  pub least : (p q : Point) → 0 < p.w → 0 < q.w → pairs p q ≡ true
      → IsNoNearer (numerator_of square) square.denominator p q

-- the least squared distance, if it is at most the square of a distance
abbrev pub IsFound : ℕ → Option SquaredFraction → Pairs → Type 0
IsFound units None pairs =
    (p q : Point) → 0 < p.w → 0 < q.w → pairs p q ≡ true → ¬ (IsAtMost (units * units) p q)
IsFound units (Some square) pairs =
    IsLeastOf square pairs × (numerator_of square ≤ (units * units) * square.denominator)

abbrev pub IsNearest : Nearest → Pairs → Type 0
IsNearest n pairs = IsFound (units_of n.distance) n.square pairs

-- pairs with a squared distance of at least n make no difference
abbrev pub IsPastAll : ℕ → Option SquaredFraction → ℕ → Type 0
IsPastAll units None n = units * units < n
IsPastAll units (Some square) n = numerator_of square ≤ n * square.denominator

abbrev pub IsPast : Nearest → ℕ → Type 0
IsPast nearest n = IsPastAll (units_of nearest.distance) nearest.square n

-- the least squared distance is 0
abbrev pub IsZero : Option SquaredFraction → Type 0
IsZero None = ⊥
IsZero (Some square) = numerator_of square ≡ 0

-- the least of some pairs becomes the least of these and of more
pub record AddsPairs (more : Pairs) (old new : Nearest) : Type 0 where
  pub distance : new.distance ≡ old.distance
  pub added : (pairs : Pairs) → IsNearest old pairs
      → IsNearest new (λ p q. pairs p q || more p q)

abbrev pub is_on_any : List Edge → Point → Bool
is_on_any es p = list_any (λ e. is_on e p) es

-- a point of an edge and a point of another
abbrev pub of_edges : Edge → Edge → Pairs
of_edges e f p q = is_on e p && is_on f q

-- a point of an edge and a point of one of some edges
abbrev pub of_each : Edge → List Edge → Pairs
of_each e fs p q = is_on e p && is_on_any fs q

-- a point of one of some edges and a point of one of others
abbrev pub of_all : List Edge → List Edge → Pairs
of_all es fs p q = is_on_any es p && is_on_any fs q

-- the same of an edge and the edges that entries of a tree number
pub record AddsEntries (e : Edge) (es : List Edge) (xs : List Entry) (old new : Nearest)
    : Type 0 where
  pub added : (d : Edge)
      → AddsPairs (λ p q. is_on e p && list_any (λ x. is_on (slice_index_or es x.number d) q) xs)
      old new
