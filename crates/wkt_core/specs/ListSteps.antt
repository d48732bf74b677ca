-- The steps of the reader over points, lists and the whole text: what they read, and what remains.
use Rattle.std.specs.Prelude.{◌≡◌, ℕ, List, [], ◌∷◌, Some}
use Rattle.wkt_core.specs.declared.keyword.Keyword.{Keyword}
use Rattle.wkt_core.specs.declared.keyword.Keyword.TheVariants.{Point, LineString, Polygon}
use Rattle.number_core.specs.declared.scale.Scale.{Scale}
use Rattle.wkt_core.specs.Grammar.{RawPoint, spelling}
use Rattle.wkt_core.specs.TokenSteps.{skip, TakesLetters}
use Rattle.wkt_core.specs.PointSteps.{point_at}

-- a step: the text at whose start it reads, the value that it reads, and the text that remains
abbrev pub Step : Type 0 → Type 1
Step X = List ℕ → X → List ℕ → Type 0

-- items after white space, with commas (44) between them and a closing parenthesis (41) at the end
abbrev pub Items : {X : Type 0} → Step X → List X → List ℕ → List ℕ → Type 0
Items Item [] text rest = ⊥
Items Item (x ∷ []) text rest = (m : List ℕ) × Item (skip text) x m × (skip m ≡ 41 ∷ rest)
Items Item (x ∷ y ∷ xs) text rest =
    (m : List ℕ) × (u : List ℕ) × Item (skip text) x m × (skip m ≡ 44 ∷ u)
    × Items Item (y ∷ xs) u rest

-- items up to and including the comma after the last
abbrev pub Begun : {X : Type 0} → Step X → List X → List ℕ → List ℕ → Type 0
Begun Item [] text rest = rest ≡ text
Begun Item (x ∷ xs) text rest =
    (m : List ℕ) × (u : List ℕ) × Item (skip text) x m × (skip m ≡ 44 ∷ u) × Begun Item xs u rest

-- items after an opening parenthesis (40)
abbrev pub Enclosed : {X : Type 0} → Step X → List ℕ → List X → List ℕ → Type 0
Enclosed Item text xs rest = (u : List ℕ) × (text ≡ 40 ∷ u) × Items Item xs u rest

-- a point, a list of points and a list of lists at the start
abbrev pub TakesPoint : Scale → List ℕ → RawPoint → List ℕ → Type 0
TakesPoint scale text p rest = point_at scale text ≡ Some (p, rest)

abbrev pub TakesPoints : Scale → List ℕ → List RawPoint → List ℕ → Type 0
TakesPoints scale text ps rest = Enclosed (TakesPoint scale) text ps rest

abbrev pub TakesLists : Scale → List ℕ → List (List RawPoint) → List ℕ → Type 0
TakesLists scale text lists rest = Enclosed (TakesPoints scale) text lists rest

-- a keyword at the start
abbrev pub TakesWord : List ℕ → Keyword → List ℕ → Type 0
TakesWord text keyword rest = TakesLetters (spelling keyword) text rest

-- the text after a keyword
abbrev pub TakesBody : Scale → Keyword → List ℕ → List (List RawPoint) → List ℕ → Type 0
TakesBody scale Point text ((p ∷ []) ∷ []) rest = TakesPoints scale text (p ∷ []) rest
TakesBody scale LineString text (ps ∷ []) rest = TakesPoints scale text ps rest
TakesBody scale Polygon text lists rest = TakesLists scale text lists rest
TakesBody scale _ text _ rest = ⊥

-- the whole text is a keyword with lists of points
abbrev pub TakesText : Scale → List ℕ → Keyword → List (List RawPoint) → Type 0
TakesText scale text keyword lists =
    (m : List ℕ) × (e : List ℕ) × TakesWord (skip text) keyword m
    × TakesBody scale keyword (skip m) lists e × (skip e ≡ [])
