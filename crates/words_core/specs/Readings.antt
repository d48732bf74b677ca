-- How the words of the command line are read, from the matches of `clap`.
use Rattle.std.specs.Prelude.{◌≡◌, ◌≢◌, ◌<◌, ◌≤◌, ⊤, ◌⊎◌, ◌&&◌, ◌||◌, ℕ, Bool, true, false, List}
use Rattle.std.specs.Prelude.{[], ◌∷◌, ◌++◌, length, get_or, Option, Some, None, Result, Ok, Err, codes}
use Rattle.std.specs.Prelude.{if◌then◌else◌, find, nat_le, nat_eq, option_map, option_and_then}
use Rattle.std.specs.Prelude.{string_bytes}
use Rattle.std.specs.Bool.{MatchBool}
use Rattle.std.specs.Borrow.{Bor}
use Rattle.std.specs.Option.{MatchOption, option_map_or, option_or}
use Rattle.std.specs.Str.{bytes_eq, chars}
use Rattle.std.specs.Str.Parse.{digits_value, without_leading_plus}
use Rattle.clap.specs.Words.{Kinds, IsAmong, Row, Text, fault_of, first_of, found_of, one_of}
use Rattle.clap.specs.Words.{rows_of, subcommand_of}
use Rattle.clap.specs.ValueTests.{is_unsigned_in}
use Rattle.strsim.specs.Edits.{levenshtein_row}
use Rattle.clap.specs.declared.error.kind.ErrorKind.{ErrorKind}
use Rattle.clap.specs.declared.error.kind.ErrorKind.TheVariants.{DisplayHelp, DisplayVersion}
use Rattle.clap.specs.declared.parser.matches.ArgMatches.{ArgMatches}
use Rattle.relation_core.specs.FaultTexts.{mask_text}
use Rattle.relation_core.specs.Masks.{HasBadLetter}
use Rattle.relation_core.specs.Relations.{Spells, SpellsNothing}
use Rattle.relation_core.specs.declared.mask.MaskFault.{MaskFault}
use Rattle.relation_core.specs.declared.mask.MaskFault.TheVariants as mask
use Rattle.relation_core.specs.declared.relation.Relation.{Relation}
use Rattle.number_core.specs.ScaleLimits.{most_digits}
use Rattle.number_core.specs.Scales.{digits_of, limits_of, rounding_of}
use Rattle.number_core.specs.declared.limits.Limits.{Limits}
use Rattle.number_core.specs.declared.limits.Limits.TheVariants as limits
use Rattle.number_core.specs.declared.scale.Rounding.{Rounding}
use Rattle.number_core.specs.declared.scale.Rounding.TheVariants as rounding
use Rattle.number_core.specs.declared.scale.Scale.{Scale}
use Rattle.distance_core.specs.Queries.{most_of, within_of}
use Rattle.distance_core.specs.declared.distance.Distance.{Distance}
use Rattle.distance_core.specs.declared.query.Query.{Query}
use Rattle.distance_core.specs.declared.nearness.Nearness.{Nearness}
use Rattle.distance_core.specs.declared.nearness.Nearness.TheVariants.{Apart, Within}
use Rattle.pair_core.specs.Limits.{most_workers}
use Rattle.pair_core.specs.Options.{workers_of, batch_of, cut_of, AreWorkers, IsBatch, IsCut}
use Rattle.pair_core.specs.declared.options.Options.{Options}
use Rattle.pair_core.specs.declared.options.OptionFault.TheVariants as range
use Rattle.pair_core.specs.declared.product.Product.{Product}
use Rattle.pair_core.specs.declared.product.Product.TheVariants.{Report, Pairs, Firsts}
use Rattle.pair_core.specs.declared.product.Product.TheVariants.{FirstPairs, Counts, Unmatched}
use Rattle.pair_core.specs.declared.product.Product.TheVariants.{Picture}
use Rattle.plane_core.specs.declared.rings.Rings.{Rings}
use Rattle.plane_core.specs.declared.rings.Rings.TheVariants.{Proper, EvenOdd}
use Rattle.format_core.specs.declared.layout.Columns.{Columns}
use Rattle.format_core.specs.declared.layout.Columns.TheVariants as columns
use Rattle.format_core.specs.declared.layout.Columns.TheVariants.{Named}
use Rattle.format_core.specs.declared.layout.Delimiter.{Delimiter}
use Rattle.format_core.specs.declared.layout.Delimiter.TheVariants.{Comma, Semicolon, Tab}
use Rattle.format_core.specs.declared.layout.Layout.{Layout}
use Rattle.usage_core.specs.Usage.{usage_of}
use Rattle.words_core.specs.Conditions.{ForbidsDisjoint, HoldsForDisjoint, geometries_of}
use Rattle.words_core.specs.Conditions.{relation_of}
use Rattle.words_core.specs.Distances.{SpellsDistance, SpellsNoDistance}
use Rattle.words_core.specs.declared.condition.Condition.{Condition}
use Rattle.words_core.specs.declared.condition.Geometries.{Geometries}
use Rattle.words_core.specs.declared.condition.Geometries.TheVariants.{Box, Any}
use Rattle.words_core.specs.declared.words.Command.{Command}
use Rattle.words_core.specs.declared.words.Command.TheVariants.{Relate, Join, Near, Nearest}
use Rattle.words_core.specs.declared.words.Command.TheVariants.{Window, Stats, Bounds}
use Rattle.words_core.specs.declared.words.JoinRequest.{JoinRequest}
use Rattle.words_core.specs.declared.words.LayerPaths.{LayerPaths}
use Rattle.words_core.specs.declared.words.LayerRequest.{LayerRequest}
use Rattle.words_core.specs.declared.words.NearRequest.{NearRequest}
use Rattle.words_core.specs.declared.words.NearestRequest.{NearestRequest}
use Rattle.words_core.specs.declared.words.RelateRequest.{RelateRequest}
use Rattle.words_core.specs.declared.words.WordFault.{WordFault}
use Rattle.words_core.specs.declared.words.WordFault.TheVariants as fault
use Rattle.words_core.specs.declared.words.Workers.{Workers}
use Rattle.words_core.specs.declared.words.Workers.TheVariants.{Exact, Auto}

-- ---- values

-- the matches of the arguments of one command
abbrev pub found_in : ArgMatches → List Row
found_in given = rows_of (found_of given)

-- the number less than 2 ^ 32 that a text spells
abbrev pub number_of : Text → Option ℕ
number_of text =
    if is_unsigned_in 0 4294967295 text then Some (digits_value 10 (without_leading_plus text))
    else None

abbrev pub number_at : Text → List Row → Option ℕ
number_at name rows = option_and_then number_of (one_of name rows)

abbrev pub is_dash : Text → Bool
is_dash path = bytes_eq path (codes "-")

-- at least two of the files of a join are standard input
abbrev pub share_input : Text → Text → Option Text → Bool
share_input left right edits = (is_dash left && is_dash right)
    || ((is_dash left || is_dash right) && option_map_or is_dash edits false)

-- the list of skipped rows would be written to standard output or over a file of the join
abbrev pub is_taken : Text → Text → Option Text → Option Text → Bool
is_taken left right edits skip = option_map_or (λ path. is_dash path || bytes_eq path left
    || bytes_eq path right || option_map_or (bytes_eq path) edits false) skip false

-- ---- commands

-- numbers are rounded where `--round` is given
abbrev pub IsRoundingIn : List Row → Rounding → Type 0
IsRoundingIn rows rounding.Nearest = first_of (codes "round") rows ≡ Some (codes "true")
IsRoundingIn rows rounding.Exact = first_of (codes "round") rows ≢ Some (codes "true")

-- any geometry's limits where `--geometry any` is given, and else those of boxes
abbrev pub AreLimitsIn : List Row → Limits → Type 0
AreLimitsIn rows limits.Any = first_of (codes "geometry") rows ≡ Some (codes "any")
AreLimitsIn rows limits.Boxes = first_of (codes "geometry") rows ≢ Some (codes "any")

pub record IsScaleIn (rows : List Row) (scale : Scale) : Type 0 where
  pub digits : number_at (codes "scale") rows ≡ Some (digits_of scale)
  pub rounding : IsRoundingIn rows (rounding_of scale)
  pub limits : AreLimitsIn rows (limits_of scale)

-- the word of `--rings`, if one is given, names this rule; proper rings need no word
abbrev pub NamesRings : Option Text → Rings → Type 0
NamesRings None Proper = ⊤
NamesRings None EvenOdd = ⊥
NamesRings (Some word) Proper = word ≡ codes "proper"
NamesRings (Some word) EvenOdd = word ≡ codes "even-odd"

abbrev pub AreGeometriesIn : List Row → Geometries → Type 0
AreGeometriesIn rows Box = (first_of (codes "geometry") rows ≡ Some (codes "box"))
    × (first_of (codes "rings") rows ≡ None)
AreGeometriesIn rows (Any rings) = (first_of (codes "geometry") rows ≡ Some (codes "any"))
    × NamesRings (first_of (codes "rings") rows) rings

-- the words name no kind of geometries
abbrev pub NamesNoKind : List Row → Type 0
NamesNoKind rows = (geometries : Geometries) → ¬ (AreGeometriesIn rows geometries)

pub record IsRelateIn (rows : List Row) (request : RelateRequest) : Type 0 where
  pub first : first_of (codes "A") rows ≡ Some request.a.now
  pub second : first_of (codes "B") rows ≡ Some request.b.now
  pub scale : IsScaleIn rows request.scale
  pub geometries : AreGeometriesIn rows request.geometries

-- the word of `--delimiter`, if one is given, names this character; a comma needs no word
abbrev pub NamesDelimiter : Option Text → Delimiter → Type 0
NamesDelimiter None Comma = ⊤
NamesDelimiter None Semicolon = ⊥
NamesDelimiter None Tab = ⊥
NamesDelimiter (Some word) Comma = word ≡ codes ","
NamesDelimiter (Some word) Semicolon = word ≡ codes ";"
NamesDelimiter (Some word) Tab = (word ≡ codes "tab") ⊎ (word ≡ codes "\t")

-- the names of the columns of ids and of geometries, on either side of the first comma of a word
pub record ArePartedAt (word id geometry : Text) : Type 0 where
  pub parted : word ≡ id ++ 44 ∷ geometry
  pub first : (place : ℕ) → place < length id → get_or id place 0 ≢ 44

-- a word without a comma names the column of geometries alone
abbrev pub AreColumnNames : Text → Columns → Type 0
AreColumnNames word columns.Exact = ⊥
AreColumnNames word (Named None geometry) =
    ((place : ℕ) → place < length word → get_or word place 0 ≢ 44) × (geometry.now ≡ word)
AreColumnNames word (Named (Some id) geometry) = ArePartedAt word id.now geometry.now

-- the word of `--columns`, if one is given, names the columns
abbrev pub NamesColumns : Option Text → Columns → Type 0
NamesColumns None columns.Exact = ⊤
NamesColumns None (Named id geometry) = ⊥
NamesColumns (Some word) named = AreColumnNames word named

-- the layout that these words of a delimiter and of columns name
pub record IsLayoutBy (delimiter columns : Option Text) (layout : Layout) : Type 0 where
  pub separated : NamesDelimiter delimiter layout.delimiter
  pub named : NamesColumns columns layout.columns

abbrev pub IsLayoutIn : List Row → Layout → Type 0
IsLayoutIn rows =
    IsLayoutBy (first_of (codes "delimiter") rows) (first_of (codes "columns") rows)

-- the word of a side's own option, and without one that of the option for both layers
abbrev pub own_or_common : Text → Text → List Row → Option Text
own_or_common own common rows = option_or (first_of own rows) (first_of common rows)

abbrev pub IsLeftLayoutIn : List Row → Layout → Type 0
IsLeftLayoutIn rows =
    IsLayoutBy (own_or_common (codes "left-delimiter") (codes "delimiter") rows)
    (own_or_common (codes "left-columns") (codes "columns") rows)

abbrev pub IsRightLayoutIn : List Row → Layout → Type 0
IsRightLayoutIn rows =
    IsLayoutBy (own_or_common (codes "right-delimiter") (codes "delimiter") rows)
    (own_or_common (codes "right-columns") (codes "columns") rows)

pub record IsLayerIn (rows : List Row) (layer : LayerRequest) : Type 0 where
  pub path : first_of (codes "LAYER") rows ≡ Some layer.path.now
  pub layout : IsLayoutIn rows layer.layout
  pub scale : IsScaleIn rows layer.scale
  pub geometries : AreGeometriesIn rows layer.geometries

-- the word of `--workers` is `auto`
abbrev pub is_auto : List Row → Bool
is_auto rows = option_map_or (bytes_eq (codes "auto")) (first_of (codes "workers") rows) false

-- the number of workers, of which `auto` asks for the limit at most
abbrev pub workers_at : List Row → Option ℕ
workers_at rows =
    if is_auto rows then Some most_workers else number_at (codes "workers") rows

-- the number of workers is meant as the word says
abbrev pub AreMeant : List Row → Workers → Type 0
AreMeant rows Auto = is_auto rows ≡ true
AreMeant rows Exact = is_auto rows ≡ false

pub record AreOptionsIn (rows : List Row) (options : Options) (workers : Workers) : Type 0 where
  pub count : workers_at rows ≡ Some (workers_of options)
  pub meant : AreMeant rows workers
  pub batch : number_at (codes "batch") rows ≡ Some (batch_of options)
  pub cut : number_at (codes "cut") rows ≡ Some (cut_of options)
  pub ranges : AreWorkers (workers_of options) × IsBatch (batch_of options)
      × IsCut (cut_of options)

-- the word spells the relation
abbrev pub IsRelationIn : List Row → Relation → Type 0
IsRelationIn rows relation = (word : Text) × (first_of (codes "relation") rows ≡ Some word)
    × Spells relation word

-- the condition is this relation, of the kind of geometries that the words name
pub record IsConditionIn (rows : List Row) (relation : Relation) (condition : Condition)
    : Type 0 where
  pub same : relation_of condition ≡ relation
  pub geometries : AreGeometriesIn rows (geometries_of condition)

abbrev pub text_in : Option (Bor Text) → Option Text
text_in = option_map (λ text. text.now)

-- the paths of the files of a join, of which at most one is standard input, and of the list of
-- skipped rows, which is another file, and the layouts of the layers' files
pub record ArePathsIn (rows : List Row) (paths : LayerPaths) : Type 0 where
  pub left : first_of (codes "LEFT") rows ≡ Some paths.left.now
  pub right : first_of (codes "RIGHT") rows ≡ Some paths.right.now
  pub edits : first_of (codes "edits") rows ≡ text_in paths.edits
  pub one_input : share_input paths.left.now paths.right.now (text_in paths.edits) ≡ false
  pub skip : first_of (codes "skip") rows ≡ text_in paths.skip
  pub free : is_taken paths.left.now paths.right.now (text_in paths.edits) (text_in paths.skip)
      ≡ false
  pub left_layout : IsLeftLayoutIn rows paths.left_layout
  pub right_layout : IsRightLayoutIn rows paths.right_layout

-- the option without a value is given
abbrev pub is_flagged : Text → List Row → Bool
is_flagged name rows =
    option_map_or (λ value. bytes_eq value (codes "true")) (first_of name rows) false

-- what a join writes by `--pairs`, `--first`, `--count` and `--unmatched`, of which only the first
-- two go together
abbrev pub product_by : Bool → Bool → Bool → Bool → Option Product
product_by false false false false = Some Report
product_by true false false false = Some Pairs
product_by false true false false = Some Firsts
product_by true true false false = Some FirstPairs
product_by false false true false = Some Counts
product_by false false false true = Some Unmatched
product_by _ _ _ _ = None

abbrev pub product_in : List Row → Option Product
product_in rows = product_by (is_flagged (codes "pairs") rows) (is_flagged (codes "first") rows)
    (is_flagged (codes "count") rows) (is_flagged (codes "unmatched") rows)

-- the product is the one that these options ask for, which a picture doesn't take
abbrev pub IsProductIn : List Row → Product → Type 0
IsProductIn rows Picture = ⊤
IsProductIn rows product = product_in rows ≡ Some product

pub record IsJoinIn (rows : List Row) (join : JoinRequest) : Type 0 where
  pub product : IsProductIn rows join.product
  pub paths : ArePathsIn rows join.paths
  pub relation : IsRelationIn rows (relation_of join.condition)
  pub geometries : AreGeometriesIn rows (geometries_of join.condition)
  pub options : AreOptionsIn rows join.options join.workers
  pub scale : IsScaleIn rows join.scale

-- pairs that share a point are left out where `--apart` is given
abbrev pub IsNearnessIn : List Row → Nearness → Type 0
IsNearnessIn rows Apart = first_of (codes "apart") rows ≡ Some (codes "true")
IsNearnessIn rows Within = first_of (codes "apart") rows ≢ Some (codes "true")

-- the word spells the distance at the scale
abbrev pub IsDistanceIn : List Row → Scale → Distance → Type 0
IsDistanceIn rows scale distance = (word : Text)
    × (first_of (codes "distance") rows ≡ Some word) × SpellsDistance scale word distance

pub record IsNearIn (rows : List Row) (near : NearRequest) : Type 0 where
  pub paths : ArePathsIn rows near.paths
  pub distance : IsDistanceIn rows near.scale near.distance
  pub nearness : IsNearnessIn rows near.nearness
  pub options : AreOptionsIn rows near.options near.workers
  pub scale : IsScaleIn rows near.scale
  pub geometries : AreGeometriesIn rows near.geometries

-- the word of `--distance`, if one is given, spells this distance at the scale
abbrev pub IsReachIn : List Row → Scale → Option Distance → Type 0
IsReachIn rows scale None = first_of (codes "distance") rows ≡ None
IsReachIn rows scale (Some distance) = IsDistanceIn rows scale distance

pub record IsNearestIn (rows : List Row) (nearest : NearestRequest) : Type 0 where
  pub paths : ArePathsIn rows nearest.paths
  pub most : number_at (codes "most") rows ≡ Some (most_of nearest.query)
  pub reach : IsReachIn rows nearest.scale (within_of nearest.query)
  pub options : AreOptionsIn rows nearest.options nearest.workers
  pub scale : IsScaleIn rows nearest.scale
  pub geometries : AreGeometriesIn rows nearest.geometries

-- ---- faults

-- the fault shows this text, and is no request for help
abbrev pub Says : Text → WordFault → Type 0
Says text (fault.Usage shown false) = string_bytes shown ≡ text
Says text _ = ⊥

abbrev pub missing_text : Text → Text
missing_text name = codes "error: " ++ name ++ codes " is missing\n"

-- the consequence for a value, or the fault that it is missing
abbrev pub Needs : {X : Type 0} → Text → Option X → WordFault → (X → Type 0) → Type 0
Needs name None f Then = Says (missing_text name) f
Needs name (Some value) f Then = Then value

abbrev pub NeedsText : Text → List Row → WordFault → (Text → Type 0) → Type 0
NeedsText name rows = Needs name (first_of name rows)

abbrev pub NeedsNumber : Text → List Row → WordFault → (ℕ → Type 0) → Type 0
NeedsNumber name rows = Needs name (number_at name rows)

-- the fault of a number of decimals beyond these limits
abbrev pub scale_fault : Limits → WordFault
scale_fault limits.Boxes = fault.Scale
scale_fault limits.Any = fault.ScaleOfAny

-- a number of decimals that the limits allow, and one beyond them with its fault
abbrev pub AreAllowed : List Row → ℕ → Type 0
AreAllowed rows digits = (these : Limits) × AreLimitsIn rows these × (digits ≤ most_digits these)

abbrev pub AreTooMany : List Row → ℕ → WordFault → Type 0
AreTooMany rows digits f = (these : Limits) × AreLimitsIn rows these
    × (most_digits these < digits) × (f ≡ scale_fault these)

abbrev pub HasScaleFault : List Row → WordFault → Type 0
HasScaleFault rows f =
    NeedsNumber (codes "scale") rows f (λ digits. AreTooMany rows digits f)

-- a fault of the scale, or the consequence if it has none
abbrev pub NeedsScale : List Row → WordFault → Type 0 → Type 0
NeedsScale rows f Then = NeedsNumber (codes "scale") rows f (λ digits.
    AreTooMany rows digits f ⊎ (AreAllowed rows digits × Then))

abbrev pub IsNoRingRule : Option Text → Type 0
IsNoRingRule None = ⊥
IsNoRingRule (Some word) = (word ≢ codes "proper") × (word ≢ codes "even-odd")

-- the fault of the word of `--geometry`, or of the word of `--rings`, if one is given
abbrev pub IsGeometryFault : Text → Option Text → WordFault → Type 0
IsGeometryFault word rings fault.Geometry = (word ≢ codes "box") × (word ≢ codes "any")
IsGeometryFault word rings fault.RingsOfBoxes = (word ≡ codes "box") × (rings ≢ None)
IsGeometryFault word rings fault.Rings = (word ≡ codes "any") × IsNoRingRule rings
IsGeometryFault word rings _ = ⊥

abbrev pub HasGeometryFault : List Row → WordFault → Type 0
HasGeometryFault rows f = NeedsText (codes "geometry") rows f (λ word.
    IsGeometryFault word (first_of (codes "rings") rows) f)

-- a fault of how geometries are written: of the scale, or else of their kind
abbrev pub HasFormatFault : List Row → WordFault → Type 0
HasFormatFault rows f = NeedsScale rows f (HasGeometryFault rows f)

abbrev pub HasRelateFault : List Row → WordFault → Type 0
HasRelateFault rows f =
    NeedsText (codes "A") rows f (λ _. NeedsText (codes "B") rows f (λ _. HasFormatFault rows f))

abbrev pub IsNoDelimiter : Option Text → Type 0
IsNoDelimiter None = ⊥
IsNoDelimiter (Some word) = (word ≢ codes ",") × (word ≢ codes ";") × (word ≢ codes "tab")
    × (word ≢ codes "\t")

abbrev pub HasDelimiterFault : List Row → WordFault → Type 0
HasDelimiterFault rows f =
    IsNoDelimiter (first_of (codes "delimiter") rows) × (f ≡ fault.Delimiter)

-- the same of a side with an option of its own, whose word is at fault in this way
abbrev pub HasOwnDelimiterFault : Text → WordFault → List Row → WordFault → Type 0
HasOwnDelimiterFault own told rows f =
    MatchOption (first_of own rows) (HasDelimiterFault rows f)
    (λ word. IsNoDelimiter (Some word) × (f ≡ told))

abbrev pub HasLeftFault : List Row → WordFault → Type 0
HasLeftFault = HasOwnDelimiterFault (codes "left-delimiter") fault.LeftDelimiter

abbrev pub HasRightFault : List Row → WordFault → Type 0
HasRightFault = HasOwnDelimiterFault (codes "right-delimiter") fault.RightDelimiter

-- a fault of the layout of a lone layer's file, or the consequence if it has none
abbrev pub NeedsLayout : List Row → WordFault → Type 0 → Type 0
NeedsLayout rows f Then =
    HasDelimiterFault rows f ⊎ (((layout : Layout) × IsLayoutIn rows layout) × Then)

-- a fault of the layout of the left layer's file, or else of the right one's, or the consequence if
-- they have none
abbrev pub NeedsLayouts : List Row → WordFault → Type 0 → Type 0
NeedsLayouts rows f Then =
    HasLeftFault rows f ⊎ (((layout : Layout) × IsLeftLayoutIn rows layout)
    × (HasRightFault rows f ⊎ (((layout : Layout) × IsRightLayoutIn rows layout) × Then)))

abbrev pub HasLayerFault : List Row → WordFault → Type 0
HasLayerFault rows f =
    NeedsText (codes "LAYER") rows f (λ _. NeedsLayout rows f (HasFormatFault rows f))

abbrev pub HasWindowFault : List Row → WordFault → Type 0
HasWindowFault rows f = NeedsText (codes "WKT") rows f (λ _. HasLayerFault rows f)

-- the first of the three numbers that is out of range
abbrev pub IsRangeFault : ℕ → ℕ → ℕ → WordFault → Type 0
IsRangeFault workers batch cut (fault.Options range.Workers) = ¬ (AreWorkers workers)
IsRangeFault workers batch cut (fault.Options range.Batch) =
    AreWorkers workers × ¬ (IsBatch batch)
IsRangeFault workers batch cut (fault.Options range.Cut) =
    AreWorkers workers × IsBatch batch × ¬ (IsCut cut)
IsRangeFault workers batch cut _ = ⊥

-- a fault of the three numbers, or the consequence if they have none
abbrev pub NeedsOptions : List Row → WordFault → Type 0 → Type 0
NeedsOptions rows f Then =
    Needs (codes "workers") (workers_at rows) f (λ workers.
    NeedsNumber (codes "batch") rows f (λ batch.
    NeedsNumber (codes "cut") rows f (λ cut. IsRangeFault workers batch cut f
    ⊎ (AreWorkers workers × IsBatch batch × IsCut cut × Then))))

abbrev pub IsNoRelation : Text → MaskFault → Type 0
IsNoRelation word mask.Length = (length word ≢ 9) × SpellsNothing word
IsNoRelation word (mask.Letter place) = HasBadLetter word place

-- the relations that a hint may name, and the first of them that is at most two edits from the word
abbrev pub hint_names : List Text
hint_names =
    codes "intersects" ∷ codes "touches" ∷ codes "crosses" ∷ codes "within" ∷ codes "contains"
    ∷ codes "overlaps" ∷ codes "equals" ∷ codes "covers" ∷ codes "covered_by"
    ∷ codes "contains_properly" ∷ []

abbrev pub is_near : Text → Text → Bool
is_near word name =
    nat_le (levenshtein_row nat_eq (chars word) (chars name) (length (chars name))) 2

unfoldable pub hint_of : Text → Option Text
hint_of word = find (is_near word) hint_names

-- the line of an unknown relation, followed by the line of the name
abbrev pub hint_text : Text → Text
hint_text name = codes "rjoin: --relation: " ++ (mask_text mask.Length ++ (codes "\n"
    ++ (codes "did you mean " ++ (name ++ codes "?\n"))))

-- the word spells no relation; near a name it is an unknown relation with a hint, even if it has
-- nine letters, and else it has the fault of a mask
abbrev pub IsRelationFault : Text → WordFault → Type 0
IsRelationFault word (fault.Relation reason) = IsNoRelation word reason × (hint_of word ≡ None)
IsRelationFault word (fault.Usage shown help) = SpellsNothing word
    × MatchOption (hint_of word) ⊥ (λ name. Says (hint_text name) (fault.Usage shown help))
IsRelationFault word _ = ⊥

-- the relation holds for some two disjoint geometries of the kind that the words name
abbrev pub AllowsDisjointIn : List Row → Relation → Type 0
AllowsDisjointIn rows relation = (geometries : Geometries) × AreGeometriesIn rows geometries
    × HoldsForDisjoint geometries relation

-- the relation holds for no two disjoint geometries of the kind that the words name, if they name
-- one
abbrev pub ForbidsDisjointIn : List Row → Relation → Type 0
ForbidsDisjointIn rows relation =
    (geometries : Geometries) → AreGeometriesIn rows geometries
    → ForbidsDisjoint geometries relation

-- that disjoint geometries may stand in the relation, or the consequence if none do
abbrev pub NeedsNoDisjoint : List Row → Relation → WordFault → Type 0 → Type 0
NeedsNoDisjoint rows relation f Then =
    (AllowsDisjointIn rows relation × (f ≡ fault.AllowsDisjoint))
    ⊎ (ForbidsDisjointIn rows relation × Then)

-- a fault of the relation, or the consequence if a join may use it
abbrev pub NeedsRelation : List Row → WordFault → Type 0 → Type 0
NeedsRelation rows f Then = NeedsText (codes "relation") rows f (λ word.
    IsRelationFault word f
    ⊎ ((relation : Relation) × Spells relation word × NeedsNoDisjoint rows relation f Then))

abbrev pub shared_text : Text
shared_text = codes "error: only one of LEFT, RIGHT and --edits can be -\n"

abbrev pub NeedsOneInput : Text → Text → Option Text → WordFault → Type 0 → Type 0
NeedsOneInput left right edits f Then =
    MatchBool (share_input left right edits) (Says shared_text f) Then

abbrev pub taken_text : Text
taken_text = codes "error: --skip needs a file of its own\n"

abbrev pub NeedsFree : Text → Text → Option Text → Option Text → WordFault → Type 0 → Type 0
NeedsFree left right edits skip f Then =
    MatchBool (is_taken left right edits skip) (Says taken_text f) Then

-- a fault of the paths of two layers, of their edits and of the list of skipped rows, or of the
-- layouts of the layers' files, or the consequence if they have none
abbrev pub NeedsPaths : List Row → WordFault → Type 0 → Type 0
NeedsPaths rows f Then =
    NeedsText (codes "LEFT") rows f (λ left. NeedsText (codes "RIGHT") rows f (λ right.
    NeedsOneInput left right (first_of (codes "edits") rows) f
    (NeedsFree left right (first_of (codes "edits") rows) (first_of (codes "skip") rows) f
    (NeedsLayouts rows f Then))))

abbrev pub HasJoinFault : List Row → WordFault → Type 0
HasJoinFault rows f =
    NeedsPaths rows f (NeedsRelation rows f (NeedsOptions rows f (HasFormatFault rows f)))

abbrev pub mixed_text : Text
mixed_text =
    codes "error: --count and --unmatched can't be given with each other, --pairs or --first\n"

-- options that don't go together, or else a fault of the join
abbrev pub HasReportFault : List Row → WordFault → Type 0
HasReportFault rows f =
    MatchOption (product_in rows) (Says mixed_text f) (λ _. HasJoinFault rows f)

-- the fault of a distance beyond these limits
abbrev pub distance_fault : Limits → WordFault
distance_fault limits.Boxes = fault.Distance
distance_fault limits.Any = fault.DistanceOfAny

-- the word of the distance spells none at the scale
abbrev pub HasDistanceFault : List Row → Scale → WordFault → Type 0
HasDistanceFault rows scale f = NeedsText (codes "distance") rows f (λ word.
    (f ≡ distance_fault (limits_of scale)) × SpellsNoDistance scale word)

-- a fault of the distance, or else of the kind of geometries
abbrev pub HasLastNearFault : List Row → Scale → WordFault → Type 0
HasLastNearFault rows scale f = HasDistanceFault rows scale f
    ⊎ ((distance : Distance) × IsDistanceIn rows scale distance × HasGeometryFault rows f)

abbrev pub HasNearFault : List Row → WordFault → Type 0
HasNearFault rows f = NeedsPaths rows f (NeedsOptions rows f (NeedsScale rows f
    ((scale : Scale) × IsScaleIn rows scale × HasLastNearFault rows scale f)))

-- the word, if one is given, spells no distance at the scale
abbrev pub IsNoReach : Option Text → Scale → Type 0
IsNoReach None scale = ⊥
IsNoReach (Some word) scale = SpellsNoDistance scale word

-- the fault of the word of `--distance`, if one is given, or the consequence if it has none
abbrev pub NeedsReach : List Row → Scale → WordFault → Type 0 → Type 0
NeedsReach rows scale f Then =
    (IsNoReach (first_of (codes "distance") rows) scale
    × (f ≡ distance_fault (limits_of scale)))
    ⊎ (((within : Option Distance) × IsReachIn rows scale within) × Then)

-- a fault of the distance, or else that no features are sought
abbrev pub HasQueryFault : List Row → Scale → WordFault → Type 0
HasQueryFault rows scale f = NeedsReach rows scale f
    (NeedsNumber (codes "most") rows f (λ most. (most ≡ 0) × (f ≡ fault.Most)))

-- the number of features that are sought, and the distance, if one is given
pub record IsQueryIn (rows : List Row) (scale : Scale) (query : Query) : Type 0 where
  pub most : number_at (codes "most") rows ≡ Some (most_of query)
  pub reach : IsReachIn rows scale (within_of query)

-- a fault of these, or else of the kind of geometries
abbrev pub HasLastNearestFault : List Row → Scale → WordFault → Type 0
HasLastNearestFault rows scale f = HasQueryFault rows scale f
    ⊎ ((query : Query) × IsQueryIn rows scale query × HasGeometryFault rows f)

abbrev pub HasNearestFault : List Row → WordFault → Type 0
HasNearestFault rows f = NeedsPaths rows f (NeedsOptions rows f (NeedsScale rows f
    ((scale : Scale) × IsScaleIn rows scale × HasLastNearestFault rows scale f)))

-- ---- the words

-- the subcommand with its matches, as `clap` gives them
abbrev pub Met : Type 0
Met = Option (Text × List Row)

-- the name of the command for this product of a join
abbrev pub name_of : Product → Text
name_of Picture = codes "draw"
name_of _ = codes "join"

-- the matches of the command with this name are this command
abbrev pub IsCommandIn : Text → List Row → Command → Type 0
IsCommandIn name rows (Relate request) = (name ≡ codes "relate") × IsRelateIn rows request
IsCommandIn name rows (Join join) = (name ≡ name_of join.product) × IsJoinIn rows join
IsCommandIn name rows (Near near) = (name ≡ codes "near") × IsNearIn rows near
IsCommandIn name rows (Nearest nearest) = (name ≡ codes "nearest") × IsNearestIn rows nearest
IsCommandIn name rows (Window layer wkt) = (name ≡ codes "window")
    × (first_of (codes "WKT") rows ≡ Some wkt.now) × IsLayerIn rows layer
IsCommandIn name rows (Stats layer) = (name ≡ codes "stats") × IsLayerIn rows layer
IsCommandIn name rows (Bounds layer) = (name ≡ codes "bounds") × IsLayerIn rows layer

-- the fault of the matches of the command with this name
pub data HasCommandFault (rows : List Row) (f : WordFault) : Text → Type 0 where
  of_relate : HasRelateFault rows f → HasCommandFault rows f (codes "relate")
  of_join : HasReportFault rows f → HasCommandFault rows f (codes "join")
  of_draw : HasJoinFault rows f → HasCommandFault rows f (codes "draw")
  of_near : HasNearFault rows f → HasCommandFault rows f (codes "near")
  of_nearest : HasNearestFault rows f → HasCommandFault rows f (codes "nearest")
  of_window : HasWindowFault rows f → HasCommandFault rows f (codes "window")
  of_stats : HasLayerFault rows f → HasCommandFault rows f (codes "stats")
  of_bounds : HasLayerFault rows f → HasCommandFault rows f (codes "bounds")
  of_none : (name : Text) → name ≢ codes "relate" → name ≢ codes "join" → name ≢ codes "near"
      → name ≢ codes "nearest" → name ≢ codes "draw" → name ≢ codes "window"
      → name ≢ codes "stats" → name ≢ codes "bounds"
      → Says (missing_text (codes "COMMAND")) f → HasCommandFault rows f name

-- the matches of some command are this command
abbrev pub IsMetAs : Met → Command → Type 0
IsMetAs None command = ⊥
IsMetAs (Some met) command = IsCommandIn met.0 met.1 command

-- a fault of the matches, or that there is no command
abbrev pub HasMetFault : Met → WordFault → Type 0
HasMetFault None f = Says (missing_text (codes "COMMAND")) f
HasMetFault (Some met) f = HasCommandFault met.1 f met.0

abbrev pub is_help : ErrorKind → Bool
is_help DisplayHelp = true
is_help DisplayVersion = true
is_help _ = false

-- the text of `clap` for an error of this kind
abbrev pub IsUsageFault : ErrorKind → WordFault → Type 0
IsUsageFault kind (fault.Usage shown help) = help ≡ is_help kind
IsUsageFault kind _ = ⊥

-- the fault of the usage, or, if that has none, of the matches
abbrev pub HasFault : Kinds → Met → WordFault → Type 0
HasFault [] met f = HasMetFault met f
HasFault (first ∷ more) met f =
    (kind : ErrorKind) × IsAmong kind (first ∷ more) × IsUsageFault kind f

-- the errors of `clap` for the words, and its matches
unfoldable pub refusals_of : List Text → Kinds
refusals_of words = fault_of (usage_of words) words

unfoldable pub met_in : List Text → Met
met_in words = subcommand_of (usage_of words) words

-- the words are read as this command, or as this fault, unless memory ran out
abbrev pub ReadAs : List Text → Result Command WordFault → Type 0
ReadAs words (Ok command) = (refusals_of words ≡ []) × IsMetAs (met_in words) command
ReadAs words (Err f) = f ≢ fault.Memory → HasFault (refusals_of words) (met_in words) f

-- memory ran out, or a word is not UTF-8
abbrev pub IsUngiven : WordFault → Type 0
IsUngiven f = f ≢ fault.Memory → Says (codes "error: a word is not UTF-8\n") f
