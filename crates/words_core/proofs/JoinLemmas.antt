-- The faults of a join, in their order.
use Rattle.std.proofs.Common.{◌≡◌, ◌≤◌, ℕ, Bool, true, false, Option, Some, None, List, refl, sym, subst, inl, inr}
use Rattle.std.specs.Prelude.{codes, ◌⊎◌}
use Rattle.std.specs.Bool.{MatchBool}
use Rattle.clap.specs.Words.{Row, Text, first_of}
use Rattle.pair_core.specs.Options.{workers_of, batch_of, cut_of, AreWorkers, IsBatch, IsCut}
use Rattle.pair_core.specs.declared.options.Options.{Options}
use Rattle.pair_core.specs.declared.options.OptionFault.{OptionFault}
use Rattle.pair_core.specs.declared.options.OptionFault.TheVariants as range
use Rattle.relation_core.specs.Relations.{Spells}
use Rattle.relation_core.specs.declared.relation.Relation.{Relation}
use Rattle.number_core.specs.ScaleLimits.{most_digits}
use Rattle.number_core.specs.Scales.{digits_of, limits_of}
use Rattle.number_core.specs.declared.scale.Scale.{Scale}
use Rattle.words_core.specs.Readings.{NeedsLayouts, missing_text, number_at, is_taken, share_input, shared_text, taken_text, text_in, workers_at, AllowsDisjointIn, AreOptionsIn, ArePathsIn, ForbidsDisjointIn, HasFormatFault, HasJoinFault, HasScaleFault, IsScaleIn}
use Rattle.words_core.specs.Readings.{IsRangeFault, IsRelationFault, NeedsNoDisjoint, NeedsOptions, NeedsPaths, NeedsRelation, NeedsScale, Says}
use Rattle.words_core.specs.declared.words.LayerPaths.{LayerPaths}
use Rattle.words_core.specs.declared.words.WordFault.{WordFault}
use Rattle.words_core.specs.declared.words.WordFault.TheVariants as fault
use Rattle.words_core.specs.declared.words.Workers.{Workers}
use Rattle.words_core.proofs.ReadingLemmas.{needs_none, needs_some, needs_weaker}

-- ---- options

-- the consequences of a fault of `Options::new`
pub options_refused : (rows : List Row) (workers batch cut : ℕ) (reason : OptionFault)
    (f : WordFault) → workers_at rows ≡ Some workers
    → number_at (codes "batch") rows ≡ Some batch → number_at (codes "cut") rows ≡ Some cut
    → (reason ≡ range.Workers → ¬ (AreWorkers workers))
    → (reason ≡ range.Batch → AreWorkers workers × ¬ (IsBatch batch))
    → (reason ≡ range.Cut → AreWorkers workers × IsBatch batch × ¬ (IsCut cut))
    → f ≡ fault.Options reason → NeedsOptions rows f ⊥
options_refused rows workers batch cut reason f w b c is_workers is_batch is_cut e =
    needs_some (codes "workers") (workers_at rows) workers f _ w
    (needs_some (codes "batch") (number_at (codes "batch") rows) batch f _ b
    (needs_some (codes "cut") (number_at (codes "cut") rows) cut f _ c
    (inl (subst (λ (g : WordFault). IsRangeFault workers batch cut g) (sym e)
    (by reason is_workers is_batch is_cut)))))
  where
    by : (r : OptionFault) → (r ≡ range.Workers → ¬ (AreWorkers workers))
        → (r ≡ range.Batch → AreWorkers workers × ¬ (IsBatch batch))
        → (r ≡ range.Cut → AreWorkers workers × IsBatch batch × ¬ (IsCut cut))
        → IsRangeFault workers batch cut (fault.Options r)
    by range.Workers x y z = x refl
    by range.Batch x y z = y refl
    by range.Cut x y z = z refl

-- options that are in range, and then a further fault
pub options_passed : (rows : List Row) (options : Options) (workers : Workers) (f : WordFault)
    (Then : Type 0) → AreOptionsIn rows options workers → Then → NeedsOptions rows f Then
options_passed rows options workers f Then are rest =
    needs_some (codes "workers") (workers_at rows) (workers_of options) f _
    are.count
    (needs_some (codes "batch") (number_at (codes "batch") rows) (batch_of options) f _ are.batch
    (needs_some (codes "cut") (number_at (codes "cut") rows) (cut_of options) f _ are.cut
    (inr (are.ranges.0, are.ranges.1, are.ranges.2, rest))))

pub options_weaker : (rows : List Row) (f : WordFault) (Then : Type 0) → NeedsOptions rows f ⊥
    → NeedsOptions rows f Then
options_weaker rows f Then n =
    needs_weaker (codes "workers") (workers_at rows) f _ _
    (λ w. needs_weaker (codes "batch") (number_at (codes "batch") rows) f _ _
    (λ b. needs_weaker (codes "cut") (number_at (codes "cut") rows) f _ _
    (λ c h. elim h [
      | inl r ↦ inl r
      | inr r ↦ absurd r.3
    ]))) n

-- ---- the scale

-- a fault of the scale comes before any other of how geometries are written
pub scale_refused : (rows : List Row) (f : WordFault) (Then : Type 0) → HasScaleFault rows f
    → NeedsScale rows f Then
scale_refused rows f Then h =
    needs_weaker (codes "scale") (number_at (codes "scale") rows) f _ _ (λ digits wrong. inl wrong)
    h

-- a scale in range, and then a further fault
pub scale_passed : (rows : List Row) (scale : Scale) (f : WordFault) (Then : Type 0)
    → IsScaleIn rows scale → digits_of scale ≤ most_digits (limits_of scale) → Then → NeedsScale rows f Then
scale_passed rows scale f Then is few h =
    needs_some (codes "scale") (number_at (codes "scale") rows) (digits_of scale) f _ is.digits
    (inr ((limits_of scale, is.limits, few), h))

-- ---- paths

when_true : (b : Bool) (P Q : Type 0) → b ≡ true → P → MatchBool b P Q
when_true true P Q e p = p
when_true false P Q e p = cc

when_false : (b : Bool) (P Q : Type 0) → b ≡ false → Q → MatchBool b P Q
when_false true P Q e q = cc
when_false false P Q e q = q

-- two files are standard input
pub paths_share : (rows : List Row) (left right : Text) (edits : Option Text) (f : WordFault)
    → first_of (codes "LEFT") rows ≡ Some left → first_of (codes "RIGHT") rows ≡ Some right
    → first_of (codes "edits") rows ≡ edits → share_input left right edits ≡ true
    → Says shared_text f → NeedsPaths rows f ⊥
paths_share rows left right edits f is_left is_right are_edits shares says =
    needs_some (codes "LEFT") (first_of (codes "LEFT") rows) left f _ is_left
    (needs_some (codes "RIGHT") (first_of (codes "RIGHT") rows) right f _ is_right
    (when_true (share_input left right (first_of (codes "edits") rows)) _ _
    (subst (λ (e : Option Text). share_input left right e ≡ true) (sym are_edits) shares) says))

-- the list of skipped rows is no file of its own
pub paths_taken : (rows : List Row) (left right : Text) (edits skip : Option Text) (f : WordFault)
    → first_of (codes "LEFT") rows ≡ Some left → first_of (codes "RIGHT") rows ≡ Some right
    → first_of (codes "edits") rows ≡ edits → first_of (codes "skip") rows ≡ skip
    → share_input left right edits ≡ false → is_taken left right edits skip ≡ true
    → Says taken_text f → NeedsPaths rows f ⊥
paths_taken rows left right edits skip f is_left is_right are_edits is_skip alone taken says =
    let e = first_of (codes "edits") rows in
    let s = first_of (codes "skip") rows in
    needs_some (codes "LEFT") (first_of (codes "LEFT") rows) left f _ is_left
    (needs_some (codes "RIGHT") (first_of (codes "RIGHT") rows) right f _ is_right
    (when_false (share_input left right e) _ _
    (subst (λ (x : Option Text). share_input left right x ≡ false) (sym are_edits) alone)
    (when_true (is_taken left right e s) _ _
    (subst (λ (x : Option Text). is_taken left right e x ≡ true) (sym is_skip)
    (subst (λ (x : Option Text). is_taken left right x skip ≡ true) (sym are_edits) taken)) says)))

-- at most one file is standard input, the list of skipped rows is another, and then a further fault
pub paths_passed : (rows : List Row) (paths : LayerPaths) (f : WordFault) (Then : Type 0)
    → ArePathsIn rows paths → Then → NeedsPaths rows f Then
paths_passed rows paths f Then are rest =
    let e = first_of (codes "edits") rows in
    let s = first_of (codes "skip") rows in
    let left = paths.left.now in
    let right = paths.right.now in
    needs_some (codes "LEFT") (first_of (codes "LEFT") rows) left f _ are.left
    (needs_some (codes "RIGHT") (first_of (codes "RIGHT") rows) right f _ are.right
    (when_false (share_input left right e) _ _
    (subst (λ (x : Option Text). share_input left right x ≡ false) (sym are.edits) are.one_input)
    (when_false (is_taken left right e s) _ _
    (subst (λ (x : Option Text). is_taken left right e x ≡ false) (sym are.skip)
    (subst (λ (x : Option Text). is_taken left right x (text_in paths.skip) ≡ false) (sym are.edits)
    are.free)) (inr ((paths.left_layout, are.left_layout), inr ((paths.right_layout, are.right_layout), rest))))))

last_weaker : (Fault Read RightFault RightRead Then : Type 0) → Fault ⊎ (Read × (RightFault ⊎ (RightRead × ⊥))) → Fault ⊎ (Read × (RightFault ⊎ (RightRead × Then)))
last_weaker Fault Read RightFault RightRead Then (inl fault) = inl fault
last_weaker Fault Read RightFault RightRead Then (inr (read, inl fault)) = inr (read, inl fault)
last_weaker Fault Read RightFault RightRead Then (inr (read, inr (right, none))) = absurd none

both_weaker : (b c : Bool) (P Q A B : Type 0) → (A → B) → MatchBool b P (MatchBool c Q A) → MatchBool b P (MatchBool c Q B)
both_weaker true c P Q A B weaker h = h
both_weaker false true P Q A B weaker h = h
both_weaker false false P Q A B weaker h = weaker h

pub paths_weaker : (rows : List Row) (f : WordFault) (Then : Type 0) → NeedsPaths rows f ⊥
    → NeedsPaths rows f Then
paths_weaker rows f Then n =
    needs_weaker (codes "LEFT") (first_of (codes "LEFT") rows) f _ _
    (λ left. needs_weaker (codes "RIGHT") (first_of (codes "RIGHT") rows) f _ _
    (λ right. both_weaker (share_input left right (first_of (codes "edits") rows))
    (is_taken left right (first_of (codes "edits") rows) (first_of (codes "skip") rows)) _ _ _ _ (last_weaker _ _ _ _ Then))) n

-- the paths are good, and a layout has a fault
pub paths_misread : (rows : List Row) (left right : Text) (edits skip : Option Text) (f : WordFault)
    → first_of (codes "LEFT") rows ≡ Some left → first_of (codes "RIGHT") rows ≡ Some right
    → first_of (codes "edits") rows ≡ edits → first_of (codes "skip") rows ≡ skip
    → share_input left right edits ≡ false → is_taken left right edits skip ≡ false
    → NeedsLayouts rows f ⊥ → NeedsPaths rows f ⊥
paths_misread rows left right edits skip f is_left is_right are_edits is_skip alone free fault =
    let e = first_of (codes "edits") rows in
    let s = first_of (codes "skip") rows in
    needs_some (codes "LEFT") (first_of (codes "LEFT") rows) left f _ is_left
    (needs_some (codes "RIGHT") (first_of (codes "RIGHT") rows) right f _ is_right
    (when_false (share_input left right e) _ _
    (subst (λ (x : Option Text). share_input left right x ≡ false) (sym are_edits) alone)
    (when_false (is_taken left right e s) _ _
    (subst (λ (x : Option Text). is_taken left right e x ≡ false) (sym is_skip)
    (subst (λ (x : Option Text). is_taken left right x skip ≡ false) (sym are_edits) free)) fault)))

-- ---- joins

-- a fault that comes behind those of the relation
abbrev LaterFault : List Row → WordFault → Type 0
LaterFault rows f = NeedsOptions rows f (HasFormatFault rows f)

module _ (rows : List Row) (paths : LayerPaths) (f : WordFault) (are : ArePathsIn rows paths)
  where
    join_from : NeedsRelation rows f (LaterFault rows f) → HasJoinFault rows f
    join_from h = paths_passed rows paths f _ are h

    -- no relation is given
    pub join_misses : first_of (codes "relation") rows ≡ None
        → Says (missing_text (codes "relation")) f → HasJoinFault rows f
    join_misses none says =
        join_from (needs_none (codes "relation") (first_of (codes "relation") rows) f _ none says)

    module _ (word : Text) (is_word : first_of (codes "relation") rows ≡ Some word) where
      relation_from : IsRelationFault word f ⊎ ((relation : Relation) × Spells relation word
          × NeedsNoDisjoint rows relation f (LaterFault rows f)) → HasJoinFault rows f
      relation_from h =
          join_from (needs_some (codes "relation") (first_of (codes "relation") rows) word f _
          is_word h)

      -- the relation is at fault
      pub join_refuses : IsRelationFault word f → HasJoinFault rows f
      join_refuses h = relation_from (inl h)

      -- disjoint geometries may stand in the relation
      pub join_allows : (relation : Relation) → Spells relation word
          → AllowsDisjointIn rows relation → f ≡ fault.AllowsDisjoint → HasJoinFault rows f
      join_allows relation spells allows e = relation_from (inr (relation, spells, inl (allows, e)))

      -- a later argument is at fault
      pub join_passes : (relation : Relation) → Spells relation word
          → ForbidsDisjointIn rows relation → NeedsOptions rows f (HasFormatFault rows f)
          → HasJoinFault rows f
      join_passes relation spells forbids h =
          relation_from (inr (relation, spells, inr (forbids, h)))
