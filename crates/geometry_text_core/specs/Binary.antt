-- Well-known binary (OGC 06-103r4, 8), with the SRID of EWKB: how bytes begin with each part of a
-- geometry, and which bytes remain. What a point is read as is left open.
use Rattle.std.specs.Prelude.{◌≡◌, ◌⊎◌, ◌<◌, ◌≤◌, ◌+◌, ℕ, Bool, true, false, List, [], ◌∷◌}
use Rattle.std.specs.Prelude.{length, take, drop}
use Rattle.std.specs.Int.{w32, w64, from_be_bytes, from_le_bytes}
use Rattle.double_core.specs.Doubles.{is_nan}
use Rattle.wkt_core.specs.declared.keyword.Keyword.{Keyword}
use Rattle.wkt_core.specs.declared.keyword.Keyword.TheVariants.{Point, LineString, Polygon}
use Rattle.wkt_core.specs.ListSteps.{Step}
use Rattle.wkt_any_core.specs.declared.heading.Heading.{Heading}
use Rattle.wkt_any_core.specs.Grammar.{joined}
use Rattle.geometry_text_core.specs.declared.order.Order.{Order}
use Rattle.geometry_text_core.specs.declared.order.Order.TheVariants.{Big, Little}

-- the byte of an order
abbrev pub TakesOrder : Step Order
TakesOrder bytes Big rest = bytes ≡ 0 ∷ rest
TakesOrder bytes Little rest = bytes ≡ 1 ∷ rest

-- the number of 4 and of 8 bytes
abbrev pub number_of_4 : Order → List ℕ → ℕ
number_of_4 Big bytes = from_be_bytes w32 bytes
number_of_4 Little bytes = from_le_bytes w32 bytes

abbrev pub number_of_8 : Order → List ℕ → ℕ
number_of_8 Big bytes = from_be_bytes w64 bytes
number_of_8 Little bytes = from_le_bytes w64 bytes

-- a number of 4 bytes
abbrev pub TakesNumber : Order → Step ℕ
TakesNumber order bytes n rest =
    (4 ≤ length bytes) × (n ≡ number_of_4 order (take 4 bytes)) × (rest ≡ drop 4 bytes)

-- the 8 bytes of a double that isn't a NaN
abbrev pub TakesDouble : Order → Step ℕ
TakesDouble order bytes bits rest =
    (8 ≤ length bytes) × (bits ≡ number_of_8 order (take 8 bytes)) × (rest ≡ drop 8 bytes)
    × (is_nan bits ≡ false)

-- items one after another
abbrev pub TakesEach : {X : Type 0} → Step X → Step (List X)
TakesEach Item bytes [] rest = rest ≡ bytes
TakesEach Item bytes (x ∷ xs) rest =
    (m : List ℕ) × Item bytes x m × TakesEach Item m xs rest

-- one item or more after their number
abbrev pub TakesCounted : {X : Type 0} → Order → Step X → Step (List X)
TakesCounted order Item bytes xs rest =
    (m : List ℕ) × (0 < length xs) × TakesNumber order bytes (length xs) m
    × TakesEach Item m xs rest

-- the codes of the kinds: a single point, polyline or polygon, or many
abbrev pub code_of : Keyword → ℕ
code_of Point = 1
code_of LineString = 2
code_of Polygon = 3

abbrev pub code_by : Bool → Keyword → ℕ
code_by false keyword = code_of keyword
code_by true keyword = 3 + code_of keyword

abbrev pub heading_code : Heading → ℕ
heading_code heading = code_by heading.is_multi heading.keyword

-- the flag of EWKB for an SRID, 2^29
abbrev pub srid_flag : ℕ
srid_flag = 536870912

-- the code of a kind; if it is flagged, an SRID follows, which is read over
abbrev pub TakesKind : Order → Step Heading
TakesKind order bytes heading rest = TakesNumber order bytes (heading_code heading) rest
    ⊎ ((m : List ℕ) × (srid : ℕ) × TakesNumber order bytes (srid_flag + heading_code heading) m
    × TakesNumber order m srid rest)

-- the order of a geometry's numbers, and its kind
abbrev pub TakesHead : Step (Order × Heading)
TakesHead bytes (order, heading) rest =
    (m : List ℕ) × TakesOrder bytes order m × TakesKind order m heading rest

-- the lists of points of a single point, polyline or polygon
abbrev pub TakesBody : {P : Type 0} → (Order → Step P) → Order → Keyword → Step (List (List P))
TakesBody Item order Point bytes ((p ∷ []) ∷ []) rest = Item order bytes p rest
TakesBody Item order LineString bytes (ps ∷ []) rest =
    TakesCounted order (Item order) bytes ps rest
TakesBody Item order Polygon bytes lists rest =
    TakesCounted order (TakesCounted order (Item order)) bytes lists rest
TakesBody Item order _ bytes _ rest = ⊥

-- one of many: a whole geometry of the kind that they are of, in an order of its own
abbrev pub TakesPart : {P : Type 0} → (Order → Step P) → Keyword → Step (List (List P))
TakesPart Item keyword bytes lists rest =
    (order : Order) × (m : List ℕ)
    × TakesHead bytes (order, record { is_multi = false; keyword = keyword }) m
    × TakesBody Item order keyword m lists rest

-- the lists of many: points are one list, and polygons have their rings in a row
abbrev pub gathered : {P : Type 0} → Keyword → List (List P) → List (List P)
gathered Point lists = joined lists ∷ []
gathered _ lists = lists

abbrev pub TakesParts : {P : Type 0} → (Order → Step P) → Order → Keyword → Step (List (List P))
TakesParts {P = P} Item order keyword bytes lists rest =
    (parts : List (List (List P))) × (lists ≡ joined parts)
    × TakesCounted order (TakesPart Item keyword) bytes parts rest

abbrev pub TakesLists : {P : Type 0} → (Order → Step P) → Order → Bool → Keyword
    → Step (List (List P))
TakesLists Item order false keyword = TakesBody Item order keyword
TakesLists Item order true keyword = TakesParts Item order keyword

-- the bytes are those of a geometry of this kind, with these lists of points
pub record IsBinary {P : Type 0} (Item : Order → Step P) (bytes : List ℕ) (keyword : Keyword)
    (lists : List (List P)) : Type 0 where
  pub order : Order
  pub is_multi : Bool
  pub body : List ℕ
  pub raw : List (List P)
  pub head : TakesHead bytes (order, record { is_multi = is_multi; keyword = keyword }) body
  pub taken : TakesLists Item order is_multi keyword body raw []
  pub same : lists ≡ gathered keyword raw
