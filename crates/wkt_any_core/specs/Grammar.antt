-- The grammar of the texts of any geometry, over that of wkt_core: a single point, polyline or
-- polygon, or many of one kind (OGC 06-103r4, 7.2).
use Rattle.std.specs.Prelude.{◌≡◌, ◌⊎◌, ℕ, Bool, false, true, List, [], ◌∷◌, ◌++◌, map, codes}
use Rattle.std.specs.List.{flat_map}
use Rattle.std.specs.Char.{to_ascii_lowercase}
use Rattle.wkt_core.specs.declared.keyword.Keyword.{Keyword}
use Rattle.wkt_core.specs.declared.keyword.Keyword.TheVariants.{Point, LineString, Polygon}
use Rattle.number_core.specs.declared.scale.Scale.{Scale}
use Rattle.number_core.specs.Numbers.{◌then◌}
use Rattle.wkt_core.specs.Grammar.{RawPoint, Blanks, PointText, PointList, InParentheses}
use Rattle.wkt_core.specs.Grammar.{Body as OneBody, spelling as word}
use Rattle.wkt_any_core.specs.declared.heading.Heading.{Heading}

-- the concatenated lists
abbrev pub joined : {X : Type 0} → List (List X) → List X
joined lists = flat_map (λ list. list) lists

-- a point of a list of points, with or without parentheses
abbrev pub Member : Scale → RawPoint → List ℕ → Type 0
Member scale p text = PointText scale p text ⊎ PointList scale (p ∷ []) text

-- the polygons of a text of many, each with its rings
abbrev pub Polygons : Scale → List (List (List RawPoint)) → List ℕ → Type 0
Polygons scale polygons text = InParentheses (InParentheses (PointList scale)) polygons text

-- the text after a keyword with MULTI: points, polylines, or polygons, whose rings are concatenated
abbrev pub ManyBody : Scale → Keyword → List (List RawPoint) → List ℕ → Type 0
ManyBody scale Point (ps ∷ []) text = InParentheses (Member scale) ps text
ManyBody scale LineString lists text = InParentheses (PointList scale) lists text
ManyBody scale Polygon lists text =
    (polygons : List (List (List RawPoint))) × (lists ≡ joined polygons)
    × Polygons scale polygons text
ManyBody scale _ _ text = ⊥

abbrev pub BodyBy : Scale → Bool → Keyword → List (List RawPoint) → List ℕ → Type 0
BodyBy scale false keyword lists text = OneBody scale keyword lists text
BodyBy scale true keyword lists text = ManyBody scale keyword lists text

abbrev pub Body : Scale → Heading → List (List RawPoint) → List ℕ → Type 0
Body scale heading lists text = BodyBy scale heading.is_multi heading.keyword lists text

-- a heading in lower case
abbrev pub spelling_by : Bool → Keyword → List ℕ
spelling_by false keyword = word keyword
spelling_by true keyword = codes "multi" ++ word keyword

abbrev pub spelling : Heading → List ℕ
spelling heading = spelling_by heading.is_multi heading.keyword

-- a heading, in any case
abbrev pub Words : Heading → List ℕ → Type 0
Words heading text = map to_ascii_lowercase text ≡ spelling heading

-- the text is a heading with lists of points, by the grammar of numbers at this scale
abbrev pub Raw : Scale → List ℕ → Heading → List (List RawPoint) → Type 0
Raw scale text heading lists =
    (Blanks then Words heading then Blanks then Body scale heading lists then Blanks) text
