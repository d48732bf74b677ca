-- The features of a layer that are nearest to a geometry. `has_point` says which points of the
-- plane a geometry has, and `fraction` which fraction the square of a distance is.
use Rattle.std.specs.Prelude.{⊤, ◌≡◌, ◌↔◌, ℕ, ◌*◌, ◌<◌, ◌≤◌, List, map, Option, None, Some, All}
use Rattle.std.specs.Prelude.{AllPairs, Contains, count_by, length, nat_eq}
use Rattle.plane_core.specs.Points.{Point}
use Rattle.distance_core.specs.declared.distance.Distance.{Distance}
use Rattle.distance_core.specs.declared.query.Query.{Query}
use Rattle.distance_core.specs.Units.{units_of}
use Rattle.distance_core.specs.Queries.{most_of, within_of}
use Rattle.distance_core.specs.Distances.{scaled_square, scale_of, AreWithin}
use Rattle.layer_core.specs.Layers.{Feature, Contents, with_number}
use Rattle.planar_core.specs.Squares.{IsSquareOf}
use Rattle.nearest_core.specs.declared.neighbour.Neighbour.{Neighbour}
use Rattle.nearest_core.specs.Orders.{Precedes}

-- the geometry is at most the distance from g, if there is one
abbrev pub IsInReach : {G : Type 0} → (G → Point → Type 0) → Option Distance → G → G → Type 0
IsInReach has_point None g h = ⊤
IsInReach has_point (Some distance) g h =
    AreWithin (units_of distance) (has_point g) (has_point h)

-- of two geometries the first is strictly nearer to g than the second: one of its points is nearer
-- to a point of g than any point of the second is to any point of g
pub record IsNearer {G : Type 0} (has_point : G → Point → Type 0) (g near far : G) : Type 0 where
  pub first : Point
  pub second : Point
  pub first_wide : 0 < first.w
  pub second_wide : 0 < second.w
  pub first_in : has_point g first
  pub second_in : has_point near second
  pub nearer : (p q : Point) → 0 < p.w → 0 < q.w → has_point g p → has_point far q
      → scaled_square first second * scale_of p q < scaled_square p q * scale_of first second

-- the feature with this number is strictly nearer to g than a geometry
pub record IsNearerNumber {G : Type 0} (has_point : G → Point → Type 0) (layer : Contents G)
    (g far : G) (number : ℕ) : Type 0 where
  pub feature : Feature G
  pub held : with_number number layer ≡ Some feature
  pub nearer : IsNearer has_point g feature.shape far

-- no number occurs twice
abbrev pub AreDistinct : List ℕ → Type 0
AreDistinct ks = (k : ℕ) → count_by (nat_eq k) ks ≤ 1

-- fewer features of the layer than are asked for are strictly nearer to g than a geometry
abbrev pub AreFewNearer : {G : Type 0} → (G → Point → Type 0) → Query → Contents G → G → G → Type 0
AreFewNearer has_point query layer g far = (others : List ℕ) → AreDistinct others
    → All (IsNearerNumber has_point layer g far) others → length others < most_of query

-- the feature with this number is one of the nearest that are asked for: it is in reach, and fewer
-- features of the layer than are asked for are strictly nearer
pub record IsNear {G : Type 0} (has_point : G → Point → Type 0) (query : Query)
    (layer : Contents G) (g : G) (number : ℕ) : Type 0 where
  pub feature : Feature G
  pub held : with_number number layer ≡ Some feature
  pub in_reach : IsInReach has_point (within_of query) g feature.shape
  pub few_nearer : AreFewNearer has_point query layer g feature.shape

-- a feature of the layer, by its number and the square of its distance from g
pub record IsNeighbour {G S : Type 0} (fraction : S → ℕ × ℕ) (has_point : G → Point → Type 0)
    (layer : Contents G) (g : G) (n : Neighbour S) : Type 0 where
  pub feature : Feature G
  pub held : with_number n.number layer ≡ Some feature
  pub square : IsSquareOf (fraction n.square) (has_point g) (has_point feature.shape)

abbrev pub numbers_of : {S : Type 0} → List (Neighbour S) → List ℕ
numbers_of ns = map (λ n. n.number) ns

-- exactly the nearest features of the layer that are asked for, each once, by their distances, and
-- then in layer order
pub record AreNearestIn {G S : Type 0} (fraction : S → ℕ × ℕ) (has_point : G → Point → Type 0)
    (query : Query) (layer : Contents G) (g : G) (found : List (Neighbour S)) : Type 0 where
  pub in_order : AllPairs (Precedes fraction) found
  pub measured : All (IsNeighbour fraction has_point layer g) found
  pub exact : (k : ℕ) → Contains (numbers_of found) k ↔ IsNear has_point query layer g k
