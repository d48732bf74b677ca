-- The results of reading lists of points.
use Rattle.std.specs.Prelude.{◌≡◌, Bool, false, List, [], ◌∷◌, IsTrue, map, is_some}
use Rattle.std.specs.List.{list_all}
use Rattle.wkt_core.specs.declared.read_list.ReadList.{ReadList}
use Rattle.wkt_core.specs.declared.read_list.ReadLists.{ReadLists}
use Rattle.number_core.specs.declared.scale.Scale.{Scale}
use Rattle.wkt_core.specs.Grammar.{RawPoint}
use Rattle.wkt_core.specs.Spelling.{position}
use Rattle.wkt_core.specs.PointSteps.{point_read}
use Rattle.wkt_core.specs.Walks.{way_of, IsKeptOf}

-- whether each number is a whole number of units
abbrev pub are_whole : Scale → List RawPoint → Bool
are_whole scale ps = list_all (λ p. (point_read scale p).whole) ps

-- whether each number, without the decimals beyond the scale, is in range
abbrev pub are_in_range : Scale → List RawPoint → Bool
are_in_range scale ps = list_all (λ p. is_some (point_read scale p).position) ps

-- if all numbers are in range, the kept points of the walk along the points
pub record IsReadOf (scale : Scale) (list : ReadList) (ps : List RawPoint) : Type 0 where
  pub whole : list.whole ≡ are_whole scale ps
  pub in_range : list.in_range ≡ are_in_range scale ps
  pub walk : IsTrue (are_in_range scale ps) → IsKeptOf list.walk (way_of (map (position scale) ps))

-- the first list, if it is the only one
abbrev pub StandsAlone : Scale → Bool → ReadList → List (List RawPoint) → Type 0
StandsAlone scale alone first [] = ⊥
StandsAlone scale alone first (ps ∷ []) = IsTrue alone × IsReadOf scale first ps
StandsAlone scale alone first (ps ∷ qs ∷ lists) = alone ≡ false

pub record AreReadOf (scale : Scale) (read : ReadLists) (lists : List (List RawPoint)) : Type 0
  where
    pub whole : read.whole ≡ list_all (are_whole scale) lists
    pub in_range : read.in_range ≡ list_all (are_in_range scale) lists
    pub alone : StandsAlone scale read.alone read.first lists
