-- The text of a geometry in either form: well-known text, to which an SRID may be prefixed, or
-- hexadecimal well-known binary.
use Rattle.std.specs.Prelude.{◌≡◌, ◌⊎◌, ℕ, List, [], ◌∷◌, Option, Some, None, Result, codes}
use Rattle.std.specs.Prelude.{if◌then◌else◌}
use Rattle.std.specs.Char.{is_ascii_digit}
use Rattle.plane_core.specs.Figures.{Figure}
use Rattle.plane_core.specs.declared.rings.Rings.{Rings}
use Rattle.number_core.specs.declared.scale.Scale.{Scale}
use Rattle.number_core.specs.NumberSteps.{after_digits}
use Rattle.wkt_core.specs.declared.keyword.Keyword.{Keyword}
use Rattle.wkt_core.specs.declared.position.Position.{Position}
use Rattle.wkt_core.specs.TokenSteps.{skip, TakesLetters}
use Rattle.wkt_any_core.specs.declared.fault.GeometryFault.{GeometryFault}
use Rattle.wkt_any_core.specs.Readings.{ReadsBy}
use Rattle.wkt_any_core.specs.Spelling.{ArePlaced, SaysText}
use Rattle.geometry_text_core.specs.Binary.{IsBinary}
use Rattle.geometry_text_core.specs.Hexadecimal.{SpellsBytes}
use Rattle.geometry_text_core.specs.Positions.{TakesPosition, HasPosition, the_position}

-- the text after a digit
abbrev pub digit_at : List ℕ → Option (List ℕ)
digit_at [] = None
digit_at (b ∷ text) = if is_ascii_digit b then Some text else None

-- after white space the text begins with "SRID=" in any case, a digit or more and a semicolon (59)
abbrev pub TakesSrid : List ℕ → List ℕ → Type 0
TakesSrid text rest = (m : List ℕ) × (u : List ℕ) × TakesLetters (codes "srid=") (skip text) m
    × (digit_at m ≡ Some u) × (after_digits u ≡ 59 ∷ rest)

-- well-known text, or an SRID and well-known text
abbrev pub SaysWords : Scale → List ℕ → Keyword → Option (List (List Position)) → Type 0
SaysWords scale text keyword places = SaysText scale text keyword places
    ⊎ ((rest : List ℕ) × TakesSrid text rest × SaysText scale rest keyword places)

-- hexadecimal digits of the bytes of a geometry; its points have places if each has a position
pub record SaysBytes (scale : Scale) (text : List ℕ) (keyword : Keyword)
    (places : Option (List (List Position))) : Type 0 where
  pub bytes : List ℕ
  pub lists : List (List (Option Position))
  pub spelled : SpellsBytes text bytes
  pub binary : IsBinary (TakesPosition scale) bytes keyword lists
  pub placed : ArePlaced HasPosition the_position lists places

abbrev pub Says : Scale → List ℕ → Keyword → Option (List (List Position)) → Type 0
Says scale text keyword places =
    SaysWords scale text keyword places ⊎ SaysBytes scale text keyword places

-- which geometry or fault a text reads as
abbrev pub Reads : Scale → Rings → List ℕ → Result Figure GeometryFault → Type 0
Reads scale rings text answer = ReadsBy (Says scale text) rings answer
