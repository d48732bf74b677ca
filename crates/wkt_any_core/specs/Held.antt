-- The lists of points read so far, as they are stored.
use Rattle.std.specs.Prelude.{◌≡◌, ℕ, ◌+◌, Bool, true, false, List, [], ◌∷◌, map, length}
use Rattle.std.specs.Prelude.{◌-◌, ◌++◌, ◌&&◌, ◌==◌, Option, Some, None, slice_get, if◌then◌else◌}
use Rattle.std.specs.Ordering.{int_eq}
use Rattle.std.specs.List.{AllByRecursion}
use Rattle.plane_core.specs.declared.vertex.Vertex.{Vertex}
use Rattle.wkt_core.specs.declared.position.Position.{Position}
use Rattle.number_core.specs.declared.scale.Scale.{Scale}
use Rattle.wkt_core.specs.Drawing.{without_repeats}
use Rattle.wkt_core.specs.Grammar.{RawPoint}
use Rattle.wkt_core.specs.Spelling.{HasGoodNumbers, position}
use Rattle.wkt_any_core.specs.declared.paths.Paths.{Paths}
use Rattle.wkt_core.specs.declared.keyword.Keyword.{Keyword}
use Rattle.wkt_core.specs.declared.keyword.Keyword.TheVariants.{Point}
use Rattle.wkt_any_core.specs.declared.raw.RawGeometry.{RawGeometry}
use Rattle.plane_core.specs.declared.rings.Rings.{Rings}
use Rattle.wkt_any_core.specs.Drawing.{position_of, drawn, skips_dots}
use Rattle.wkt_any_core.specs.Grammar.{joined}
use Rattle.wkt_any_core.specs.Spelling.{SaysText}

-- the ends of concatenated lists
abbrev pub ends_of : {X : Type 0} → ℕ → List (List X) → List ℕ
ends_of n [] = []
ends_of n (list ∷ lists) = (n + length list) ∷ ends_of (n + length list) lists

-- the vertex at the place of a point, if this is good
abbrev pub IsPlaceOf : {P : Type 0} → (P → Type 0) → (P → Position) → P → Option Vertex → Type 0
IsPlaceOf Good place p (Some v) = Good p × (position_of v ≡ place p)
IsPlaceOf Good place p None = ¬ (Good p)

-- the same of a point as a text has it
abbrev pub IsVertexOf : Scale → RawPoint → Option Vertex → Type 0
IsVertexOf scale p v = IsPlaceOf (HasGoodNumbers scale) (position scale) p v

-- the points of the paths before and of the open one are good
abbrev pub AreGood : {P : Type 0} → (P → Type 0) → List (List P) → List P → Type 0
AreGood Good before ps = AllByRecursion (AllByRecursion Good) before × AllByRecursion Good ps

-- the stored paths, and the open one
pub record IsHeld (paths : Paths) (lists : List (List Position)) (open_one : List Position) : Type 0
  where
    pub ends : paths.ends.items ≡ ends_of 0 lists
    pub vertices : map position_of paths.vertices.items ≡ joined lists
    pub last : map position_of paths.open.items ≡ open_one

-- the result of reading the paths before and the points of the open one, each of which has a place
-- if it is good
pub record IsReadBy {P : Type 0} (Good : P → Type 0) (place : P → Position) (skips : Bool)
    (paths : Paths) (before : List (List P)) (ps : List P) : Type 0 where
  pub rule : paths.skips_dots ≡ skips
  pub good : paths.are_good ≡ true → AreGood Good before ps
  pub bad : paths.are_good ≡ false → ¬ (AreGood Good before ps)
  pub held : AreGood Good before ps → IsHeld paths
      (drawn skips (map (map place) before)) (without_repeats (map place ps))

-- the same of points as a text has them
abbrev pub IsRead : Scale → Bool → Paths → List (List RawPoint) → List RawPoint → Type 0
IsRead scale skips paths before ps =
    IsReadBy (HasGoodNumbers scale) (position scale) skips paths before ps

-- whether a path that is at one vertex stays there
abbrev pub stays_at : Option Vertex → Vertex → Bool
stays_at None v = false
stays_at (Some w) v = int_eq w.x v.x && int_eq w.y v.y

-- the path extended by a vertex, unless it is there already
abbrev pub stepped : List Vertex → Vertex → List Vertex
stepped vs v = if stays_at (slice_get vs (length vs - 1)) v then vs else vs ++ v ∷ []

pub record IsStepped (old : Paths) (v : Vertex) (new : Paths) : Type 0 where
  pub last : new.open.items ≡ stepped old.open.items v
  pub vertices : new.vertices.items ≡ old.vertices.items
  pub ends : new.ends.items ≡ old.ends.items
  pub good : new.are_good ≡ old.are_good
  pub skips : new.skips_dots ≡ old.skips_dots

-- the open path goes to a vertex, or a point without one makes the paths bad
abbrev pub IsAdded : Paths → Option Vertex → Paths → Type 0
IsAdded old (Some v) new = IsStepped old v new
IsAdded old None new = (new.are_good ≡ false) × (new.skips_dots ≡ old.skips_dots)

-- the open path was added to the paths before
pub record IsKept (old new : Paths) : Type 0 where
  pub vertices : new.vertices.items ≡ old.vertices.items ++ old.open.items
  pub ends : new.ends.items ≡ old.ends.items ++ length new.vertices.items ∷ []
  pub last : new.open.items ≡ old.open.items
  pub good : new.are_good ≡ old.are_good
  pub skips : new.skips_dots ≡ old.skips_dots

-- the open path was added, or it is left out
pub record IsTaken (old : Paths) (is_left_out : Bool) (new : Paths) : Type 0 where
  pub kept : is_left_out ≡ false → IsKept old new
  pub left : is_left_out ≡ true → new ≡ old

-- the open path was added to the paths before, unless it is a point that is left out
pub record IsEnded (old new : Paths) : Type 0 where
  pub mid : Paths
  pub taken : IsTaken old (old.skips_dots && (length old.open.items == 1)) mid
  pub vertices : new.vertices.items ≡ mid.vertices.items
  pub ends : new.ends.items ≡ mid.ends.items
  pub last : new.open.items ≡ []
  pub good : new.are_good ≡ mid.are_good
  pub skips : new.skips_dots ≡ mid.skips_dots

-- nothing is stored
pub record IsBare (paths : Paths) (rule : Bool) : Type 0 where
  pub vertices : paths.vertices.items ≡ []
  pub ends : paths.ends.items ≡ []
  pub last : paths.open.items ≡ []
  pub good : paths.are_good ≡ true
  pub skips : paths.skips_dots ≡ rule

-- The paths hold lists of points, of which each is good and at its place, or some isn't good. Under
-- the keyword of points there is one list.
abbrev pub AreAt : Rings → Keyword → Paths → Option (List (List Position)) → Type 0
AreAt rule keyword paths (Some lists) =
    (paths.are_good ≡ true) × IsHeld paths (drawn (skips_dots rule keyword) lists) []
    × (keyword ≡ Point → length lists ≡ 1)
AreAt rule keyword paths None = paths.are_good ≡ false

-- some lists of points are held
abbrev pub IsWhole : Rings → Keyword → Paths → Type 0
IsWhole rule keyword paths =
    (places : Option (List (List Position))) × AreAt rule keyword paths places

-- points are added to the open path
abbrev pub AddsPointsBy : {P : Type 0} → (P → Type 0) → (P → Position) → Paths → List P → Paths
    → Type 0
AddsPointsBy {P = P} Good place old added new =
    (skips : Bool) (before : List (List P)) (ps : List P)
    → IsReadBy Good place skips old before ps → IsReadBy Good place skips new before (ps ++ added)

-- paths are added while none is open
abbrev pub AddsPathsBy : {P : Type 0} → (P → Type 0) → (P → Position) → Paths → List (List P)
    → Paths → Type 0
AddsPathsBy {P = P} Good place old lists new = (skips : Bool) (before : List (List P))
    → IsReadBy Good place skips old before [] → IsReadBy Good place skips new (before ++ lists) []

-- the same of points as a text has them
abbrev pub AddsPoints : Scale → Paths → List RawPoint → Paths → Type 0
AddsPoints scale old added new =
    AddsPointsBy (HasGoodNumbers scale) (position scale) old added new

abbrev pub AddsPoint : Scale → Paths → RawPoint → Paths → Type 0
AddsPoint scale old p new = AddsPoints scale old (p ∷ []) new

abbrev pub AddsPaths : Scale → Paths → List (List RawPoint) → Paths → Type 0
AddsPaths scale old lists new = AddsPathsBy (HasGoodNumbers scale) (position scale) old lists new

-- the result of reading a whole text of the grammar
pub record IsRawText (scale : Scale) (rule : Rings) (text : List ℕ) (raw : RawGeometry) : Type 0
  where
    pub places : Option (List (List Position))
    pub says : SaysText scale text raw.keyword places
    pub at : AreAt rule raw.keyword raw.paths places
