-- What the reader of bytes adds to the paths that it collects.
use Rattle.std.proofs.Common.{◌≡◌, ℕ, List, [], ◌∷◌, ◌++◌, length, refl, sym, ◌∙◌, ap, subst}
use Rattle.std.specs.Prelude.{Option, Some, None}
use Rattle.std.proofs.lemmas.List.{append-nil}
use Rattle.std.proofs.lemmas.List.Concat.{flat_map-append}
use Rattle.plane_core.specs.declared.vertex.Vertex.{Vertex}
use Rattle.plane_core.specs.declared.rings.Rings.{Rings}
use Rattle.number_core.specs.declared.scale.Scale.{Scale}
use Rattle.wkt_core.specs.declared.keyword.Keyword.{Keyword}
use Rattle.wkt_core.specs.declared.keyword.Keyword.TheVariants.{Point, LineString, Polygon}
use Rattle.wkt_core.specs.declared.position.Position.{Position}
use Rattle.wkt_any_core.specs.declared.paths.Paths.{Paths}
use Rattle.wkt_any_core.specs.declared.raw.RawGeometry.{RawGeometry}
use Rattle.wkt_any_core.specs.Drawing.{skips_dots}
use Rattle.wkt_any_core.specs.Grammar.{joined}
use Rattle.wkt_any_core.specs.Held.{IsAdded, IsBare, IsEnded, IsPlaceOf, AddsPointsBy}
use Rattle.wkt_any_core.proofs.AnswerLemmas.{placed}
use Rattle.wkt_any_core.proofs.PathLemmas.{added, none_read, paths_none, paths_more, points_none, points_more, points_ended}
use Rattle.geometry_text_core.specs.Binary.{IsBinary, gathered}
use Rattle.geometry_text_core.specs.Hexadecimal.{SpellsBytes}
use Rattle.geometry_text_core.specs.Held.{AddsPosition, AddsPaths, AddsLists, IsRawBinary, IsRawBytes}
use Rattle.geometry_text_core.specs.Positions.{TakesPosition, HasPosition, the_position, position_at}

place_of : (v : Option Vertex) → IsPlaceOf HasPosition the_position (position_at v) v
place_of (Some v) = (tt, refl)
place_of None = λ h. h

pub position_added : (old new : Paths) (v : Option Vertex) → IsAdded old v new → AddsPosition old (position_at v) new
position_added old new v step skips before ps r = added HasPosition the_position skips before old new ps (position_at v) v (place_of v) step r

-- ---- lists one after another

pub no_points : (paths : Paths) → AddsPointsBy HasPosition the_position paths [] paths
no_points paths = points_none HasPosition the_position paths

pub more_points : (old mid new : Paths) (qs rs : List (Option Position)) → AddsPointsBy HasPosition the_position old qs mid → AddsPointsBy HasPosition the_position mid rs new
    → AddsPointsBy HasPosition the_position old (qs ++ rs) new
more_points old mid new qs rs h k = points_more HasPosition the_position old mid new qs rs h k

pub no_paths : (paths : Paths) → AddsPaths paths [] paths
no_paths paths = paths_none HasPosition the_position paths

pub more_paths : (old mid new : Paths) (xs ys : List (List (Option Position))) → AddsPaths old xs mid → AddsPaths mid ys new → AddsPaths old (xs ++ ys) new
more_paths old mid new xs ys h k = paths_more HasPosition the_position old mid new xs ys h k

pub path_closed : (old mid new : Paths) (ps : List (Option Position)) → AddsPointsBy HasPosition the_position old ps mid → IsEnded mid new → AddsPaths old (ps ∷ []) new
path_closed old mid new ps h e = points_ended HasPosition the_position old mid new ps h e

pub joined_two : {X : Type 0} (xs ys : List (List X)) → joined xs ++ joined ys ≡ joined (xs ++ ys)
joined_two xs ys = sym (flat_map-append (λ list. list) xs ys)

pub joined_last : {X : Type 0} (xs : List (List X)) (x : List X) → joined xs ++ x ≡ joined (xs ++ x ∷ [])
joined_last xs x = ap (λ t. joined xs ++ t) (sym (append-nil x)) ∙ joined_two xs (x ∷ [])

pub no_lists : (keyword : Keyword) (paths : Paths) → AddsLists keyword paths [] paths
no_lists Point paths = no_points paths
no_lists LineString paths = no_paths paths
no_lists Polygon paths = no_paths paths

pub more_lists : (keyword : Keyword) (old mid new : Paths) (xs ys : List (List (Option Position))) → AddsLists keyword old xs mid → AddsLists keyword mid ys new
    → AddsLists keyword old (xs ++ ys) new
more_lists Point old mid new xs ys h k =
    subst (λ ps. AddsPointsBy HasPosition the_position old ps new) (joined_two xs ys) (more_points old mid new (joined xs) (joined ys) h k)
more_lists LineString old mid new xs ys h k = more_paths old mid new xs ys h k
more_lists Polygon old mid new xs ys h k = more_paths old mid new xs ys h k

pub more_parts : (keyword : Keyword) (old mid new : Paths) (parts : List (List (List (Option Position)))) (lists : List (List (Option Position)))
    → AddsLists keyword old (joined parts) mid → AddsLists keyword mid lists new → AddsLists keyword old (joined (parts ++ lists ∷ [])) new
more_parts keyword old mid new parts lists h k =
    subst (λ ls. AddsLists keyword old ls new) (joined_last parts lists) (more_lists keyword old mid new (joined parts) lists h k)

-- ---- the end

pub closed_points : (old new : Paths) → IsEnded old new → (start : Paths) (lists : List (List (Option Position))) → AddsLists Point start lists old
    → AddsPaths start (gathered Point lists) new
closed_points old new e start lists h = path_closed start old new (joined lists) h e

-- ---- a whole geometry

pub gathered_one : (keyword : Keyword) (lists : List (List (Option Position))) → keyword ≡ Point → length (gathered keyword lists) ≡ 1
gathered_one Point lists e = refl
gathered_one LineString lists e = absurd cc
gathered_one Polygon lists e = absurd cc

pub raw_binary : (scale : Scale) (rule : Rings) (bytes : List ℕ) (keyword : Keyword) (bare new : Paths) (binary : List (List (Option Position)))
    → IsBare bare (skips_dots rule keyword) → AddsPaths bare binary new → IsBinary (TakesPosition scale) bytes keyword binary
    → IsRawBinary scale rule bytes (record { keyword = keyword; paths = new })
raw_binary scale rule bytes keyword bare new lists empty adds binary = record {
  lists = lists;
  binary = binary;
  read = adds (skips_dots rule keyword) [] (none_read HasPosition the_position (skips_dots rule keyword) bare empty);
}

pub raw_bytes : (scale : Scale) (rule : Rings) (text bytes : List ℕ) (raw : RawGeometry) → SpellsBytes text bytes → IsRawBinary scale rule bytes raw
    → IsRawBytes scale rule text raw
raw_bytes scale rule text bytes raw spelled b =
    let alone = λ (point : raw.keyword ≡ Point). ap length b.binary.same ∙ gathered_one raw.keyword b.binary.raw point in
    let (places, are, at) = placed HasPosition the_position rule raw.keyword raw.paths b.lists alone b.read in
    record {
      places = places;
      says = record { bytes = bytes; lists = b.lists; spelled = spelled; binary = b.binary; placed = are };
      at = at;
    }
