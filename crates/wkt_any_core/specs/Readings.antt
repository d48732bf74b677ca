-- The result of reading the text of any geometry at a scale: a geometry, or its first fault.
use Rattle.std.specs.Prelude.{◌≡◌, ⊤, ℕ, List, Option, Some, None, Result, Ok, Err}
use Rattle.plane_core.specs.Figures.{Figure}
use Rattle.plane_core.specs.ProperRings.{TakesRings}
use Rattle.plane_core.specs.declared.rings.Rings.{Rings}
use Rattle.number_core.specs.declared.scale.Scale.{Scale}
use Rattle.wkt_core.specs.declared.keyword.Keyword.{Keyword}
use Rattle.wkt_core.specs.declared.position.Position.{Position}
use Rattle.wkt_any_core.specs.declared.fault.GeometryFault.{GeometryFault}
use Rattle.wkt_any_core.specs.declared.fault.GeometryFault.TheVariants.{Text, Number, Form}
use Rattle.wkt_any_core.specs.declared.fault.GeometryFault.TheVariants.{Rings as RingFault}
use Rattle.wkt_any_core.specs.Drawing.{Draws}
use Rattle.wkt_any_core.specs.Spelling.{SaysText}

-- Which geometry or fault lists of points under a keyword read as: `Number` if they have no places,
-- `Form` if they form no geometry, `Rings` if its rings have to be proper and aren't.
abbrev pub ReadsAs : Rings → Keyword → Option (List (List Position)) → Result Figure GeometryFault
    → Type 0
ReadsAs rings keyword None (Err Number) = ⊤
ReadsAs rings keyword (Some lists) (Ok g) = Draws rings keyword lists g × TakesRings rings g
ReadsAs rings keyword (Some lists) (Err Form) = (g : Figure) → ¬ (Draws rings keyword lists g)
ReadsAs rings keyword (Some lists) (Err RingFault) =
    (g : Figure) × Draws rings keyword lists g × ¬ (TakesRings rings g)
ReadsAs _ _ _ _ = ⊥

-- what a text may say: a keyword, and where its points are
abbrev pub Saying : Type 1
Saying = Keyword → Option (List (List Position)) → Type 0

-- the text says something, and that reads as the answer
pub record Answers (Says : Saying) (rings : Rings) (answer : Result Figure GeometryFault) : Type 0
  where
    pub keyword : Keyword
    pub places : Option (List (List Position))
    pub says : Says keyword places
    pub reads : ReadsAs rings keyword places answer

-- which geometry or fault a text reads as: `Text` if it says nothing
abbrev pub ReadsBy : Saying → Rings → Result Figure GeometryFault → Type 0
ReadsBy Says rings (Err Text) =
    (keyword : Keyword) (places : Option (List (List Position))) → ¬ (Says keyword places)
ReadsBy Says rings answer = Answers Says rings answer

-- which geometry or fault a well-known text reads as
abbrev pub Reads : Scale → Rings → List ℕ → Result Figure GeometryFault → Type 0
Reads scale rings text answer = ReadsBy (SaysText scale text) rings answer

-- the only result of reading a text
pub record IsReading (scale : Scale) (rings : Rings) (text : List ℕ)
    (answer : Result Figure GeometryFault) : Type 0 where
  pub reads : Reads scale rings text answer
  pub only : (other : Result Figure GeometryFault) → Reads scale rings text other → answer ≡ other
