-- The matches of nearest features have the squared distances of their features.
use Rattle.std.proofs.Common.{ℕ, List, [], ◌∷◌, All, Contains, flat_map, map}
use Rattle.std.specs.List.{AllZip}
use Rattle.std.proofs.lemmas.List.Elements.{All-append, All-contains_itself, All-head, All-map, All-nil, All-same, All-tail, All-weaker}
use Rattle.plane_core.specs.Points.{Point}
use Rattle.layer_core.specs.Layers.{Feature, Contents, IsLayer}
use Rattle.filter_core.proofs.NumberLemmas.{held_by_number}
use Rattle.refine_core.specs.declared.refined.Refined.{Refined}
use Rattle.distance_core.specs.declared.query.Query.{Query}
use Rattle.nearest_core.specs.declared.neighbour.Neighbour.{Neighbour}
use Rattle.nearest_core.specs.Matches.{AreMatches, IsRowOf, paired}
use Rattle.nearest_core.specs.Nearest.{IsNeighbour}
use Rattle.near_run_core.specs.DistanceTexts.{HasSquare}

module _ {G S : Type 0} (fraction : S → ℕ × ℕ) (has_point : G → Point → Type 0) (query : Query) (left right : Contents G) (is_left : IsLayer left) where
  pair_measured : (f : Feature G) (n : Neighbour S) → Contains left.features f → IsNeighbour fraction has_point right f.shape n
      → HasSquare fraction has_point left right (paired f.number n)
  pair_measured f n held is = record {
    first = f;
    second = is.feature;
    first_held = held_by_number left.features f is_left.rising held;
    second_held = is.held;
    holds = is.square;
  }

  row_measured : (f : Feature G) (row : List (Refined S)) → Contains left.features f → IsRowOf fraction has_point query right f row
      → All (HasSquare fraction has_point left right) row
  row_measured f row held is =
      All-same (HasSquare fraction has_point left right) row (map (paired f.number) is.found) is.pairs
      (All-map (HasSquare fraction has_point left right) (paired f.number) is.found
      (All-weaker (IsNeighbour fraction has_point right f.shape) (λ (n : Neighbour S). HasSquare fraction has_point left right (paired f.number n))
      (λ (n : Neighbour S) (h : IsNeighbour fraction has_point right f.shape n). pair_measured f n held h) is.found is.nearest.measured))

  rows_measured : (fs : List (Feature G)) (rows : List (List (Refined S))) → All (Contains left.features) fs
      → AllZip (IsRowOf fraction has_point query right) fs rows → All (HasSquare fraction has_point left right) (flat_map (λ (row : List (Refined S)). row) rows)
  rows_measured [] [] held zip = All-nil (HasSquare fraction has_point left right)
  rows_measured [] (row ∷ rows) held zip = absurd zip
  rows_measured (f ∷ fs) [] held zip = absurd zip
  rows_measured (f ∷ fs) (row ∷ rows) held zip =
      All-append (HasSquare fraction has_point left right) row (flat_map (λ (r : List (Refined S)). r) rows)
      (row_measured f row (All-head (Contains left.features) f fs held) zip.0)
      (rows_measured fs rows (All-tail (Contains left.features) f fs held) zip.1)

  -- each match is of a left and a right feature, with the squared distance of their geometries
  pub matches_measured : (matches : List (Refined S)) → AreMatches fraction has_point query right left.features matches
      → All (HasSquare fraction has_point left right) matches
  matches_measured matches are =
      All-same (HasSquare fraction has_point left right) matches (flat_map (λ (row : List (Refined S)). row) are.rows) are.joined
      (rows_measured left.features are.rows (All-contains_itself left.features) are.are_rows)
