-- The steps of a search.
use Rattle.std.specs.Prelude.{⊤, ◌≡◌, ℕ, ◌-◌, ◌≤◌, ◌⊎◌, List, [], ◌∷◌, ◌++◌, length, All}
use Rattle.std.specs.Prelude.{◌<◌, IsPermutation, Option, None, Some, slice_index_or, nat_eq}
use Rattle.std.specs.Prelude.{count_by, sum_by}
use Rattle.geom_core.specs.declared.shape.Shape.{Shape}
use Rattle.plane_core.specs.Points.{Point}
use Rattle.distance_core.specs.declared.query.Query.{Query}
use Rattle.distance_core.specs.Queries.{most_of, within_of, IsInReach as IsSquareInReach}
use Rattle.layer_core.specs.Layers.{Feature, Contents, with_number}
use Rattle.planar_core.specs.Squares.{IsLess, IsNoMore, IsSquareOf}
use Rattle.nearest_core.specs.declared.candidate.Candidate.{Candidate}
use Rattle.nearest_core.specs.declared.candidate.Item.{Item}
use Rattle.nearest_core.specs.declared.candidate.Item.TheVariants.{Subtree, Feature as One}
use Rattle.nearest_core.specs.declared.neighbour.Neighbour.{Neighbour}
use Rattle.nearest_core.specs.declared.next.Next.{Next}
use Rattle.nearest_core.specs.declared.next.Next.TheVariants.{Boxed, Measured}
use Rattle.nearest_core.specs.Candidates.{IsNoLater as IsNoLaterCandidate}
use Rattle.nearest_core.specs.Nearest.{IsInReach}
use Rattle.nearest_core.specs.Orders.{IsNoLater}
use Rattle.nearest_core.specs.Queues.{Lists}
use Rattle.nearest_core.specs.Searches.{BoxedFeature, IsCandidate, Opens, stands_for}
use Rattle.nearest_core.specs.Squares.{square_of}

-- the candidate comes first, no measured feature is nearer, and it is taken out
pub record IsFirstCandidate {S : Type 0} (fraction : S → ℕ × ℕ) (queue : List Candidate)
    (measured : List (Neighbour S)) (queue' : List Candidate) (measured' : List (Neighbour S))
    (c : Candidate) : Type 0 where
  pub others : IsPermutation queue (c ∷ queue')
  pub first : All (IsNoLaterCandidate c) queue'
  pub same : measured' ≡ measured
  pub later : All (λ m. IsNoMore (c.square, 1) (fraction m.square)) measured

-- the measured feature comes first, each candidate is further, and it is taken out
pub record IsFirstMeasured {S : Type 0} (fraction : S → ℕ × ℕ) (queue : List Candidate)
    (measured : List (Neighbour S)) (queue' : List Candidate) (measured' : List (Neighbour S))
    (m : Neighbour S) : Type 0 where
  pub others : IsPermutation measured (m ∷ measured')
  pub first : All (IsNoLater fraction m) measured'
  pub same : queue' ≡ queue
  pub nearer : All (λ d. IsLess (fraction m.square) (d.square, 1)) queue

-- what comes next is taken out
abbrev pub IsNext : {S : Type 0} → (S → ℕ × ℕ) → List Candidate → List (Neighbour S)
    → List Candidate → List (Neighbour S) → Next S → Type 0
IsNext fraction queue measured queue' measured' (Boxed c) =
    IsFirstCandidate fraction queue measured queue' measured' c
IsNext fraction queue measured queue' measured' (Measured m) =
    IsFirstMeasured fraction queue measured queue' measured' m

-- as many are found as are asked for, and the last of them is strictly nearer than this
pub record IsFull {S : Type 0} (fraction : S → ℕ × ℕ) (query : Query) (found : List (Neighbour S))
    (square : ℕ × ℕ) : Type 0 where
  pub enough : most_of query ≤ length found
  pub nearer : (d : Neighbour S)
      → IsLess (fraction (slice_index_or found (length found - 1) d).square) square

-- none that is as far away as what comes next, or further, is asked for
abbrev pub EndsAt : {S : Type 0} → (S → ℕ × ℕ) → Query → List (Neighbour S) → Next S → Type 0
EndsAt fraction query found (Boxed c) =
    ¬ (IsSquareInReach (within_of query) c.square) ⊎ IsFull fraction query found (c.square, 1)
EndsAt fraction query found (Measured m) = IsFull fraction query found (fraction m.square)

-- the box of the feature with this number has this squared distance
pub record IsBoxOf {G : Type 0} (box_of : G → Shape) (layer : Contents G) (g : G)
    (b : BoxedFeature) : Type 0 where
  pub feature : Feature G
  pub held : with_number b.number layer ≡ Some feature
  pub square : b.square ≡ square_of (box_of g) (box_of feature.shape)

-- a feature in reach of g, by its number and the square of its distance
pub record IsReached {G S : Type 0} (fraction : S → ℕ × ℕ) (has_point : G → Point → Type 0)
    (query : Query) (layer : Contents G) (g : G) (n : Neighbour S) : Type 0 where
  pub feature : Feature G
  pub held : with_number n.number layer ≡ Some feature
  pub square : IsSquareOf (fraction n.square) (has_point g) (has_point feature.shape)
  pub in_reach : IsInReach has_point (within_of query) g feature.shape

-- the squared distance of the feature with this number, if it is in reach
abbrev pub IsMeasuredAs : {G S : Type 0} → (S → ℕ × ℕ) → (G → Point → Type 0) → Query → Contents G
    → G → ℕ → Option S → Type 0
IsMeasuredAs {G} fraction has_point query layer g number None = (f : Feature G)
    → with_number number layer ≡ Some f → ¬ (IsInReach has_point (within_of query) g f.shape)
IsMeasuredAs fraction has_point query layer g number (Some square) =
    IsReached fraction has_point query layer g (record { square = square; number = number })

-- the measured features, with one more if it is in reach
abbrev pub with_one : {S : Type 0} → ℕ → Option S → List (Neighbour S) → List (Neighbour S)
with_one number None measured = measured
with_one number (Some square) measured = record { square = square; number = number } ∷ measured

-- the feature with this number is measured
pub record Measures {G S : Type 0} (fraction : S → ℕ × ℕ) (has_point : G → Point → Type 0)
    (query : Query) (layer : Contents G) (g : G) (number : ℕ) (old new : List (Neighbour S))
    : Type 0 where
  pub square : Option S
  pub is : IsMeasuredAs fraction has_point query layer g number square
  pub grown : IsPermutation (with_one number square old) new

abbrev pub VisitsItem : {G S : Type 0} → (S → ℕ × ℕ) → (G → Point → Type 0) → Query → Contents G
    → G → Shape → Item → Lists S → Lists S → Type 0
VisitsItem fraction has_point query layer g shape (Subtree n) old new =
    Opens shape n.now old.queue new.queue × (new.measured ≡ old.measured)
    × (new.found ≡ old.found)
VisitsItem fraction has_point query layer g shape (One number) old new =
    (new.queue ≡ old.queue)
    × Measures fraction has_point query layer g number old.measured new.measured
    × (new.found ≡ old.found)

-- a subtree is opened, a feature is measured, or a measured one is found
abbrev pub Visits : {G S : Type 0} → (S → ℕ × ℕ) → (G → Point → Type 0) → Query → Contents G → G
    → Shape → Next S → Lists S → Lists S → Type 0
Visits fraction has_point query layer g shape (Boxed c) old new =
    VisitsItem fraction has_point query layer g shape c.item old new
Visits fraction has_point query layer g shape (Measured m) old new =
    (new.queue ≡ old.queue) × (new.measured ≡ old.measured) × (new.found ≡ old.found ++ m ∷ [])

-- a candidate is one of the search, its features are those of the layer, and it is in reach
abbrev pub IsVisitable : {G S : Type 0} → (G → Shape) → Query → Contents G → G → Shape → Next S
    → Type 0
IsVisitable box_of query layer g shape (Boxed c) =
    IsCandidate shape c × All (IsBoxOf box_of layer g) (stands_for shape c)
    × IsSquareInReach (within_of query) c.square
IsVisitable box_of query layer g shape (Measured m) = ⊤

-- how many of the features that candidates stand for have this number
abbrev pub count_waiting : Shape → ℕ → List Candidate → ℕ
count_waiting shape k cs =
    sum_by (λ c. count_by (λ b. nat_eq k b.number) (stands_for shape c)) cs

-- the candidates are those of a search, and stand for each feature of the layer once
pub record HoldsAll {G : Type 0} (box_of : G → Shape) (layer : Contents G) (g : G)
    (queue : List Candidate) : Type 0 where
  pub each : All (IsCandidate (box_of g)) queue
  pub boxes : All (λ c. All (IsBoxOf box_of layer g) (stands_for (box_of g) c)) queue
  pub all : (k : ℕ) (f : Feature G) → with_number k layer ≡ Some f
      → 0 < count_waiting (box_of g) k queue
  pub once : (k : ℕ) → count_waiting (box_of g) k queue ≤ 1
