-- The report of the first pairs of a join of any geometry, each of which stands in its relation.
use Rattle.std.proofs.Common.{◌≡◌, ℕ, List, ◌∷◌, All, Result, IfOk, ap, get_or, not, refl, subst, sym, ◌∙◌}
use Rattle.std.proofs.lemmas.List.Elements.{All-filter, All-head, All-tail}
use Rattle.layer_core.specs.Edits.{Layers}
use Rattle.any_relation_core.specs.declared.any_relation.AnyRelation.{AnyRelation}
use Rattle.any_geometry_core.specs.declared.geometry.AnyGeometry.{AnyGeometry}
use Rattle.filter_core.specs.Joins.{IsJoinList, StandIn}
use Rattle.filter_core.proofs.NumberLemmas.{contains_at}
use Rattle.pair_core.specs.declared.product.Product.TheVariants.{Firsts}
use Rattle.refine_core.specs.declared.refined.Refined.{Refined}
use Rattle.refine_core.specs.Refinements.{AreRefined, none, kept, left_out, IsPairIn, pairs_of}
use Rattle.any_join_core.specs.Matches.{AreRelated, BoxesMeet, HaveMatrix}
use Rattle.any_join_core.specs.StandingNear.{standing_near}
use Rattle.report_core.specs.AnyMatches.{IsAnyMatrix}
use Rattle.report_core.specs.Reports.{IsReport}
use Rattle.run_core.specs.declared.fault.RunFault.{RunFault}
use Rattle.run_core.specs.declared.text.Text.{Text}
use Rattle.run_core.specs.Texts.{bytes_of_text}
use Rattle.join_core.specs.AnyJoinings.{any_joining, IsRelatedReport}
use Rattle.join_core.specs.Firsts.{firsts_of, has_earlier}
use Rattle.join_core.specs.Products.{HasProduct}
use Rattle.join_core.proofs.ProductLemmas.{text_is}

-- of pairs that all satisfy a condition, the refinement has all
all_kept : {A : Type 0} (stands : ℕ → ℕ → Type 0) (answers : ℕ → ℕ → A → Type 0) {ps : List (ℕ × ℕ)} {s : List (Refined A)} → AreRefined stands answers ps s
    → All (IsPairIn stands) ps → pairs_of s ≡ ps
all_kept stands answers none all = refl
all_kept stands answers (kept {pair} {answer} {pairs} {refined} h k a) all =
    ap (λ ps. pair ∷ ps) (all_kept stands answers a (All-tail (IsPairIn stands) pair pairs all))
all_kept stands answers (left_out {pair} {pairs} {refined} h a) all = absurd (h (All-head (IsPairIn stands) pair pairs all))

module _ (relation : AnyRelation) (layers : Layers AnyGeometry) (pairs items now : List (ℕ × ℕ)) (now_is : now ≡ items) (items_are : items ≡ firsts_of pairs)
    (joined : IsJoinList (StandIn (AreRelated relation) layers.left layers.right) pairs) where
  abbrev stands : ℕ → ℕ → Type 0
  stands i j = StandIn (AreRelated relation) layers.left layers.right (i, j)

  firsts_stand : All (IsPairIn stands) now
  firsts_stand = subst (All (IsPairIn stands)) (sym (now_is ∙ items_are))
      (All-filter (λ pair. not (has_earlier pairs pair)) (IsPairIn stands) pairs (λ k d within.
      (joined.exact (get_or pairs k d)).0 (contains_at pairs k d within)))

  pub firsts_near : All (IsPairIn (λ i j. StandIn BoxesMeet layers.left layers.right (i, j))) now
  firsts_near = λ k d within. standing_near relation layers.left layers.right (get_or now k d).0 (get_or now k d).1 (firsts_stand k d within)

  pub firsts_reported : (out : Result Text RunFault) → IfOk out (λ text. IsRelatedReport relation layers now (bytes_of_text text))
      → IfOk out (λ text. HasProduct Firsts (any_joining relation) layers (bytes_of_text text))
  firsts_reported out =
      text_is (IsRelatedReport relation layers now) (HasProduct Firsts (any_joining relation) layers) out
      (λ text is. record {
        pairs = pairs;
        are_pairs = joined;
        made = subst (λ (ps : List (ℕ × ℕ)). IsReport IsAnyMatrix layers.left layers.right ps text)
            (all_kept stands (λ i j m. StandIn (HaveMatrix m) layers.left layers.right (i, j)) is.are_refined firsts_stand ∙ now_is ∙ items_are) is.report;
      })
