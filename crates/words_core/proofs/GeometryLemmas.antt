-- The fault of words that name no kind of geometries.
use Rattle.std.proofs.Common.{◌≡◌, Option, Some, None, List, ap, ◌∙◌}
use Rattle.std.specs.Prelude.{codes}
use Rattle.clap.specs.Words.{Row, Text, first_of}
use Rattle.plane_core.specs.declared.rings.Rings.{Rings}
use Rattle.plane_core.specs.declared.rings.Rings.TheVariants.{Proper, EvenOdd}
use Rattle.words_core.specs.Readings.{HasGeometryFault, IsNoRingRule, NamesNoKind, NamesRings}
use Rattle.words_core.specs.declared.condition.Geometries.TheVariants.{Box, Any}
use Rattle.words_core.specs.declared.words.WordFault.TheVariants as fault
use Rattle.words_core.proofs.ReadingLemmas.{needs_some}

no_rule : (word : Option Text) → ((rings : Rings) → ¬ (NamesRings word rings)) → IsNoRingRule word
no_rule None none = absurd (none Proper tt)
no_rule (Some word) none = (none Proper, none EvenOdd)

module _ (rows : List Row) (none : NamesNoKind rows) (word : Text)
    (is_word : first_of (codes "geometry") rows ≡ Some word) where
  -- a rule for rings is named beside `box`
  pub has_rings_of_boxes : word ≡ codes "box" → HasGeometryFault rows fault.RingsOfBoxes
  has_rings_of_boxes is =
      needs_some (codes "geometry") (first_of (codes "geometry") rows) word fault.RingsOfBoxes _
      is_word (is, λ e. none Box (is_word ∙ ap (λ w. Some w) is, e))

  -- beside `any` there is a word that names no rule
  pub has_bad_rings : word ≡ codes "any" → HasGeometryFault rows fault.Rings
  has_bad_rings is =
      needs_some (codes "geometry") (first_of (codes "geometry") rows) word fault.Rings _ is_word (
        is,
        no_rule (first_of (codes "rings") rows)
            (λ rings names. none (Any rings) (is_word ∙ ap (λ w. Some w) is, names)),
      )
