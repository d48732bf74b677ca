-- The grammar of the texts: for each kind of text, which byte lists spell a value
-- (OGC 06-103r4, 7.2, for three of its kinds).
use Rattle.std.specs.Prelude.{◌≡◌, ◌==◌, ℕ, Bool, ◌||◌, List, [], ◌∷◌, ◌<◌, IsTrue, length, map}
use Rattle.std.specs.Prelude.{codes}
use Rattle.std.specs.List.{AllByRecursion}
use Rattle.std.specs.Char.{to_ascii_lowercase}
use Rattle.number_core.specs.declared.scale.Scale.{Scale}
use Rattle.number_core.specs.Numbers.{Numeral, Number, Exactly, ◌then◌}
use Rattle.wkt_core.specs.declared.keyword.Keyword.{Keyword}
use Rattle.wkt_core.specs.declared.keyword.Keyword.TheVariants.{Point, LineString, Polygon}

-- a point as it is written
pub record RawPoint : Type 0 where
  pub x : Numeral
  pub y : Numeral

-- space, tab, carriage return or line feed
abbrev pub is_blank : ℕ → Bool
is_blank b = b == 32 || b == 9 || b == 13 || b == 10

abbrev pub IsBlank : ℕ → Type 0
IsBlank b = IsTrue (is_blank b)

-- white space, or none
abbrev pub Blanks : List ℕ → Type 0
Blanks text = AllByRecursion IsBlank text

-- white space
abbrev pub Gap : List ℕ → Type 0
Gap text = (0 < length text) × Blanks text

abbrev pub PointText : Scale → RawPoint → List ℕ → Type 0
PointText scale p = Number scale p.x then Gap then Number scale p.y

-- one item or more, with commas between them and a closing parenthesis after them
abbrev pub Listed : {X : Type 0} → (X → List ℕ → Type 0) → List X → List ℕ → Type 0
Listed Item [] text = ⊥
Listed Item (x ∷ []) text = (Blanks then Item x then Blanks then Exactly (codes ")")) text
Listed Item (x ∷ y ∷ xs) text =
    (Blanks then Item x then Blanks then Exactly (codes ",") then Listed Item (y ∷ xs)) text

abbrev pub InParentheses : {X : Type 0} → (X → List ℕ → Type 0) → List X → List ℕ → Type 0
InParentheses Item xs = Exactly (codes "(") then Listed Item xs

abbrev pub PointList : Scale → List RawPoint → List ℕ → Type 0
PointList scale ps = InParentheses (PointText scale) ps

-- the text after a keyword: one point, a list, or a list of lists
abbrev pub Body : Scale → Keyword → List (List RawPoint) → List ℕ → Type 0
Body scale Point ((p ∷ []) ∷ []) = PointList scale (p ∷ [])
Body scale LineString (ps ∷ []) = PointList scale ps
Body scale Polygon lists = InParentheses (PointList scale) lists
Body _ _ _ = λ _. ⊥

-- a keyword in lower case
abbrev pub spelling : Keyword → List ℕ
spelling Point = codes "point"
spelling LineString = codes "linestring"
spelling Polygon = codes "polygon"

-- a keyword, in any case
abbrev pub Word : Keyword → List ℕ → Type 0
Word keyword text = map to_ascii_lowercase text ≡ spelling keyword

-- the text is a keyword with lists of points, by the grammar of numbers at this scale
abbrev pub Raw : Scale → List ℕ → Keyword → List (List RawPoint) → Type 0
Raw scale text keyword lists =
    (Blanks then Word keyword then Blanks then Body scale keyword lists then Blanks) text
