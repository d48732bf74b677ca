-- The matches of left features with the right ones that are nearest to them.
use Rattle.std.specs.Prelude.{◌≡◌, ◌++◌, ℕ, List, [], Result, Ok, Err, map, Some}
use Rattle.std.specs.List.{flat_map, AllZip}
use Rattle.std.specs.Global.{Global}
use Rattle.std.specs.declared.alloc.AllocError.{AllocError}
use Rattle.std.specs.declared.vec.Vec.{Vec}
use Rattle.plane_core.specs.Points.{Point}
use Rattle.layer_core.specs.Layers.{Feature, Contents, with_number}
use Rattle.refine_core.specs.declared.refined.Refined.{Refined}
use Rattle.distance_core.specs.declared.query.Query.{Query}
use Rattle.nearest_core.specs.declared.neighbour.Neighbour.{Neighbour}
use Rattle.nearest_core.specs.Nearest.{AreNearestIn}

-- a left feature with this number, and a right one: their numbers and squared distance
abbrev pub paired : {S : Type 0} → ℕ → Neighbour S → Refined S
paired number n = record { pair = (number, n.number); answer = n.square }

-- the matches of a left feature: with each of the right ones nearest to it, in order
pub record IsRowOf {G S : Type 0} (fraction : S → ℕ × ℕ) (has_point : G → Point → Type 0)
    (query : Query) (right : Contents G) (f : Feature G) (row : List (Refined S)) : Type 0 where
  pub found : List (Neighbour S)
  pub nearest : AreNearestIn fraction has_point query right f.shape found
  pub pairs : row ≡ map (paired f.number) found

-- one row for each item, one after another
pub record AreRows {A M : Type 0} (IsRow : A → List M → Type 0) (items : List A) (all : List M)
    : Type 0 where
  pub rows : List (List M)
  pub are_rows : AllZip IsRow items rows
  pub joined : all ≡ flat_map (λ row. row) rows

-- the matches of each left feature, in the order of the left ones
abbrev pub AreMatches : {G S : Type 0} → (S → ℕ × ℕ) → (G → Point → Type 0) → Query → Contents G
    → List (Feature G) → List (Refined S) → Type 0
AreMatches fraction has_point query right lefts matches =
    AreRows (IsRowOf fraction has_point query right) lefts matches

abbrev pub IsNumberRow : {G S : Type 0} → (S → ℕ × ℕ) → (G → Point → Type 0) → Query → Contents G
    → Contents G → ℕ → List (Refined S) → Type 0
IsNumberRow {G} fraction has_point query right left number row = (f : Feature G)
    → with_number number left ≡ Some f → IsRowOf fraction has_point query right f row

-- the same for left features by their numbers
abbrev pub AreMatchesOf : {G S : Type 0} → (S → ℕ × ℕ) → (G → Point → Type 0) → Query → Contents G
    → Contents G → List ℕ → List (Refined S) → Type 0
AreMatchesOf fraction has_point query right left numbers matches =
    AreRows (IsNumberRow fraction has_point query right left) numbers matches

-- a list of matches gains those of the left feature with this number
pub record AddsRow {G S : Type 0} (fraction : S → ℕ × ℕ) (has_point : G → Point → Type 0)
    (query : Query) (right left : Contents G) (number : ℕ) (old new : List (Refined S))
    : Type 0 where
  pub row : List (Refined S)
  pub grown : new ≡ old ++ row
  pub is : IsNumberRow fraction has_point query right left number row

-- the numbers of a layer's features, in layer order
abbrev pub feature_numbers : {G : Type 0} → Contents G → List ℕ
feature_numbers layer = map (λ f. f.number) layer.features

-- the matches of a chunk, or none if its allocation failed
abbrev pub matches_or_none : {M : Type 0} → Result (Vec M Global) AllocError → List M
matches_or_none (Ok matches) = matches.items
matches_or_none (Err refused) = []
