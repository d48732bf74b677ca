-- What the reader of bytes collects.
use Rattle.std.specs.Prelude.{◌==◌, ◌&&◌, not, ℕ, Bool, false, List, Option, [], ◌∷◌}
use Rattle.plane_core.specs.declared.rings.Rings.{Rings}
use Rattle.number_core.specs.declared.scale.Scale.{Scale}
use Rattle.wkt_core.specs.declared.keyword.Keyword.{Keyword}
use Rattle.wkt_core.specs.declared.keyword.Keyword.TheVariants.{Point}
use Rattle.wkt_core.specs.declared.position.Position.{Position}
use Rattle.wkt_any_core.specs.declared.heading.Heading.{Heading}
use Rattle.wkt_any_core.specs.declared.paths.Paths.{Paths}
use Rattle.wkt_any_core.specs.Grammar.{joined}
use Rattle.wkt_any_core.specs.declared.raw.RawGeometry.{RawGeometry}
use Rattle.wkt_any_core.specs.Drawing.{skips_dots}
use Rattle.wkt_any_core.specs.Held.{IsReadBy, AddsPointsBy, AddsPathsBy, AreAt}
use Rattle.geometry_text_core.specs.Binary.{IsBinary, code_of}
use Rattle.geometry_text_core.specs.Texts.{SaysBytes}
use Rattle.geometry_text_core.specs.Positions.{TakesPosition, HasPosition, the_position}

-- a point is added to the open path
abbrev pub AddsPosition : Paths → Option Position → Paths → Type 0
AddsPosition old p new = AddsPointsBy HasPosition the_position old (p ∷ []) new

-- paths are added while none is open
abbrev pub AddsPaths : Paths → List (List (Option Position)) → Paths → Type 0
AddsPaths old lists new = AddsPathsBy HasPosition the_position old lists new

-- the points of all lists are added to the open path under the keyword of points, and paths under
-- the others
abbrev pub AddsLists : Keyword → Paths → List (List (Option Position)) → Paths → Type 0
AddsLists Point old lists new = AddsPointsBy HasPosition the_position old (joined lists) new
AddsLists _ old lists new = AddsPaths old lists new

-- the result of reading the bytes of a geometry
pub record IsRawBinary (scale : Scale) (rule : Rings) (bytes : List ℕ) (raw : RawGeometry) : Type 0
  where
    pub lists : List (List (Option Position))
    pub binary : IsBinary (TakesPosition scale) bytes raw.keyword lists
    pub read : IsReadBy HasPosition the_position (skips_dots rule raw.keyword) raw.paths lists []

-- the result of reading a whole text of hexadecimal digits
pub record IsRawBytes (scale : Scale) (rule : Rings) (text : List ℕ) (raw : RawGeometry) : Type 0
  where
    pub places : Option (List (List Position))
    pub says : SaysBytes scale text raw.keyword places
    pub at : AreAt rule raw.keyword raw.paths places

-- whether a text begins with "0" (48)
abbrev pub begins_with_zero : List ℕ → Bool
begins_with_zero [] = false
begins_with_zero (b ∷ text) = b == 48

-- whether a kind is that of a single geometry with this keyword, by their codes
abbrev pub is_one : Heading → Keyword → Bool
is_one heading keyword = not heading.is_multi && (code_of heading.keyword == code_of keyword)
