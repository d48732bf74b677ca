-- What a text of any geometry says at a scale: which kind of geometry, and where its points are.
use Rattle.std.specs.Prelude.{◌≡◌, ℕ, List, Option, Some, None, map}
use Rattle.std.specs.List.{AllByRecursion}
use Rattle.number_core.specs.declared.scale.Scale.{Scale}
use Rattle.wkt_core.specs.declared.keyword.Keyword.{Keyword}
use Rattle.wkt_core.specs.declared.position.Position.{Position}
use Rattle.wkt_core.specs.Grammar.{RawPoint}
use Rattle.wkt_core.specs.Spelling.{HasGoodNumbers, position}
use Rattle.wkt_any_core.specs.declared.heading.Heading.{Heading}
use Rattle.wkt_any_core.specs.Grammar.{Raw}

-- Where lists of points are, each at its place if it is good. If some point isn't good, the lists
-- have no places.
abbrev pub ArePlaced : {P : Type 0} → (P → Type 0) → (P → Position) → List (List P)
    → Option (List (List Position)) → Type 0
ArePlaced Good place lists (Some places) =
    AllByRecursion (AllByRecursion Good) lists × (places ≡ map (map place) lists)
ArePlaced Good place lists None = ¬ (AllByRecursion (AllByRecursion Good) lists)

-- the text is well formed, with this keyword; its points have places if its numbers are whole and
-- in range
pub record SaysText (scale : Scale) (text : List ℕ) (keyword : Keyword)
    (places : Option (List (List Position))) : Type 0 where
  pub heading : Heading
  pub lists : List (List RawPoint)
  pub raw : Raw scale text heading lists
  pub kind : heading.keyword ≡ keyword
  pub placed : ArePlaced (HasGoodNumbers scale) (position scale) lists places
