-- The result of a text, given its keyword and lists.
use Rattle.std.specs.Prelude.{◌≡◌, ⊤, ℕ, List, IsTrue, Option, Some, None, Result, Ok, Err}
use Rattle.std.specs.List.{list_all}
use Rattle.geom_core.specs.declared.shape.Shape.{Shape}
use Rattle.wkt_core.specs.declared.fault.WktFault.{WktFault}
use Rattle.wkt_core.specs.declared.fault.WktFault.TheVariants.{Text, Number, Form}
use Rattle.wkt_core.specs.declared.raw.RawText.{RawText}
use Rattle.number_core.specs.declared.scale.Scale.{Scale}
use Rattle.wkt_core.specs.Grammar.{RawPoint}
use Rattle.wkt_core.specs.ListSteps.{TakesText}
use Rattle.wkt_core.specs.ReadLists.{AreReadOf, are_in_range}
use Rattle.wkt_core.specs.Readings.{Reads}
use Rattle.wkt_core.specs.Spelling.{Forms, positions}

-- each number is whole at the scale, and in range
abbrev pub HasGoodNumbers : RawText → Type 0
HasGoodNumbers raw = IsTrue raw.lists.whole × IsTrue raw.lists.in_range

-- whichever lists were read with this result, with numbers in range, their points form the shape
abbrev pub Draws : RawText → Shape → Type 0
Draws raw s = (scale : Scale) (text : List ℕ) (lists : List (List RawPoint))
    → TakesText scale text raw.keyword lists → AreReadOf scale raw.lists lists
    → IsTrue (list_all (are_in_range scale) lists)
    → Forms raw.keyword (positions scale lists) s

-- the same, but they form no shape
abbrev pub DrawsNone : RawText → Type 0
DrawsNone raw = (scale : Scale) (text : List ℕ) (lists : List (List RawPoint)) (s : Shape)
    → TakesText scale text raw.keyword lists → AreReadOf scale raw.lists lists
    → IsTrue (list_all (are_in_range scale) lists)
    → Forms raw.keyword (positions scale lists) s → ⊥

-- the result for the raw text, if there is one
abbrev pub IsAnswerOf : Option RawText → Result Shape WktFault → Type 0
IsAnswerOf None (Ok s) = ⊥
IsAnswerOf None (Err Text) = ⊤
IsAnswerOf None (Err Number) = ⊥
IsAnswerOf None (Err Form) = ⊥
IsAnswerOf (Some raw) (Ok s) = HasGoodNumbers raw × Draws raw s
IsAnswerOf (Some raw) (Err Text) = ⊥
IsAnswerOf (Some raw) (Err Number) = HasGoodNumbers raw → ⊥
IsAnswerOf (Some raw) (Err Form) = HasGoodNumbers raw × DrawsNone raw

-- the only result of reading a text
pub record IsReading (scale : Scale) (text : List ℕ) (answer : Result Shape WktFault) : Type 0
  where
    pub reads : Reads scale text answer
    pub only : (other : Result Shape WktFault) → Reads scale text other → answer ≡ other
