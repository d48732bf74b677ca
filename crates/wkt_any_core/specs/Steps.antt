-- The steps of the reader over headings, bodies and the whole text: what they read, and what
-- remains. Only contracts inside the crate cite these definitions; proofs relate them to the
-- grammar, in both directions.
use Rattle.std.specs.Prelude.{◌≡◌, ◌⊎◌, ℕ, Bool, false, true, List, [], ◌∷◌, codes}
use Rattle.wkt_core.specs.declared.keyword.Keyword.{Keyword}
use Rattle.wkt_core.specs.declared.keyword.Keyword.TheVariants.{Point, LineString, Polygon}
use Rattle.number_core.specs.declared.scale.Scale.{Scale}
use Rattle.wkt_core.specs.Grammar.{RawPoint}
use Rattle.wkt_core.specs.TokenSteps.{skip, TakesLetters}
use Rattle.wkt_core.specs.ListSteps.{Enclosed, TakesPoint, TakesPoints, TakesLists, TakesWord}
use Rattle.wkt_core.specs.ListSteps.{TakesBody as TakesOne}
use Rattle.wkt_any_core.specs.declared.heading.Heading.{Heading}
use Rattle.wkt_any_core.specs.Grammar.{joined}

-- a keyword, by itself or after "multi"
abbrev pub TakesKind : List ℕ → Bool → Keyword → List ℕ → Type 0
TakesKind text false keyword rest = TakesWord text keyword rest
TakesKind text true keyword rest =
    (m : List ℕ) × TakesLetters (codes "multi") text m × TakesWord m keyword rest

abbrev pub TakesHeading : List ℕ → Heading → List ℕ → Type 0
TakesHeading text heading rest = TakesKind text heading.is_multi heading.keyword rest

-- a point, with or without parentheses
abbrev pub TakesMember : Scale → List ℕ → RawPoint → List ℕ → Type 0
TakesMember scale text p rest = TakesPoint scale text p rest ⊎ TakesPoints scale text (p ∷ []) rest

abbrev pub TakesMembers : Scale → List ℕ → List RawPoint → List ℕ → Type 0
TakesMembers scale text ps rest = Enclosed (TakesMember scale) text ps rest

abbrev pub TakesPolygons : Scale → List ℕ → List (List (List RawPoint)) → List ℕ → Type 0
TakesPolygons scale text polygons rest = Enclosed (TakesLists scale) text polygons rest

-- the text after a keyword with "multi"
abbrev pub TakesMany : Scale → Keyword → List ℕ → List (List RawPoint) → List ℕ → Type 0
TakesMany scale Point text (ps ∷ []) rest = TakesMembers scale text ps rest
TakesMany scale LineString text lists rest = TakesLists scale text lists rest
TakesMany scale Polygon text lists rest =
    (polygons : List (List (List RawPoint))) × (lists ≡ joined polygons)
    × TakesPolygons scale text polygons rest
TakesMany scale _ text _ rest = ⊥

abbrev pub TakesBodyBy : Scale → Bool → Keyword → List ℕ → List (List RawPoint) → List ℕ → Type 0
TakesBodyBy scale false keyword text lists rest = TakesOne scale keyword text lists rest
TakesBodyBy scale true keyword text lists rest = TakesMany scale keyword text lists rest

abbrev pub TakesBody : Scale → Heading → List ℕ → List (List RawPoint) → List ℕ → Type 0
TakesBody scale heading text lists rest =
    TakesBodyBy scale heading.is_multi heading.keyword text lists rest

-- the whole text is a heading with lists of points
abbrev pub TakesText : Scale → List ℕ → Heading → List (List RawPoint) → Type 0
TakesText scale text heading lists =
    (m : List ℕ) × (e : List ℕ) × TakesHeading (skip text) heading m
    × TakesBody scale heading (skip m) lists e × (skip e ≡ [])
