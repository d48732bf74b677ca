-- The product of the pairs that were found of two layers.
use Rattle.std.proofs.Common.{◌≡◌, ℕ, List, Result, Ok, Err, IfErr, IfOk, refl, subst, sym}
use Rattle.layer_core.specs.Edits.{Layers}
use Rattle.pair_core.specs.declared.product.Product.{Product}
use Rattle.pair_core.specs.declared.product.Product.TheVariants.{Report, Pairs, Firsts, FirstPairs, Counts, Unmatched, Picture}
use Rattle.relation_core.specs.declared.matrix.Matrix.{Matrix}
use Rattle.draw_core.specs.Drawings.{Drawing}
use Rattle.run_core.specs.declared.fault.RunFault.{RunFault}
use Rattle.run_core.specs.declared.fault.RunFault.TheVariants.{TooManyToDraw, Memory}
use Rattle.run_core.specs.declared.text.Text.{Text}
use Rattle.run_core.specs.EditedLayers.{IsLateFault}
use Rattle.run_core.specs.LayerPairs.{ArePairs}
use Rattle.run_core.specs.TextRuns.{IsMade}
use Rattle.run_core.specs.Texts.{bytes_of_text}
use Rattle.run_core.proofs.TextRunLemmas.{made_or_late}
use Rattle.join_core.specs.declared.relation.RelatedLayers.{RelatedLayers}
use Rattle.join_core.specs.Joinings.{Joining}
use Rattle.join_core.specs.Products.{HasProduct, IsFew, IsMadeOf, IsPlain, IsPlainProduct, IsProduct, join_making}
use Rattle.join_core.specs.RelatedLayers.{HaveProduct}

-- lack of memory is one of memory or of threads
pub memory_is_late : {T : Type 0} (out : Result T RunFault) → IfErr out (λ f. f ≡ Memory) → IfErr out IsLateFault
memory_is_late (Ok x) is = tt
memory_is_late (Err e) is = subst IsLateFault (sym is) tt

-- what a text is, it is by a consequence
pub text_is : (P Q : List ℕ → Type 0) (out : Result Text RunFault) → ((text : List ℕ) → P text → Q text) → IfOk out (λ text. P (bytes_of_text text))
    → IfOk out (λ text. Q (bytes_of_text text))
text_is P Q (Ok text) turn is = turn (bytes_of_text text) is
text_is P Q (Err e) turn is = tt

-- a product that isn't a report with matrices needs none
pub plain_made : {G : Type 0} (product : Product) (is_matrix : G → G → Matrix → Type 0) (drawing : Drawing G) (layers : Layers G) (pairs : List (ℕ × ℕ))
    (text : List ℕ) → ¬ (product ≡ Report) → ¬ (product ≡ Firsts) → IsPlain product drawing layers pairs text → IsMadeOf product is_matrix drawing layers pairs text
plain_made Report is_matrix drawing layers pairs text all firsts is = absurd (all refl)
plain_made Firsts is_matrix drawing layers pairs text all firsts is = absurd (firsts refl)
plain_made Pairs is_matrix drawing layers pairs text all firsts is = is
plain_made FirstPairs is_matrix drawing layers pairs text all firsts is = is
plain_made Counts is_matrix drawing layers pairs text all firsts is = is
plain_made Unmatched is_matrix drawing layers pairs text all firsts is = is
plain_made Picture is_matrix drawing layers pairs text all firsts is = is

pub plain_text_made : {G : Type 0} (product : Product) (is_matrix : G → G → Matrix → Type 0) (drawing : Drawing G) (layers : Layers G) (pairs : List (ℕ × ℕ))
    (out : Result Text RunFault) → ¬ (product ≡ Report) → ¬ (product ≡ Firsts) → IfOk out (λ text. IsPlain product drawing layers pairs (bytes_of_text text))
    → IfOk out (λ text. IsMadeOf product is_matrix drawing layers pairs (bytes_of_text text))
plain_text_made product is_matrix drawing layers pairs out all firsts =
    text_is (IsPlain product drawing layers pairs) (IsMadeOf product is_matrix drawing layers pairs) out
    (λ text is. plain_made product is_matrix drawing layers pairs text all firsts is)

module _ {G : Type 0} (product : Product) (joining : Joining G) (layers : Layers G) where
  -- the layers have too many features for a picture
  pub too_many : ¬ (IsFew product layers) → IsMade (join_making product joining) layers (Err TooManyToDraw)
  too_many many = record { ok = tt; err = many }

  -- the output made of the pairs that were found
  pub pairs_made : (pairs list : List (ℕ × ℕ)) (out : Result Text RunFault) → ArePairs joining.stands layers pairs → list ≡ pairs
      → IfOk out (λ text. IsMadeOf product joining.is_matrix joining.drawing layers list (bytes_of_text text))
      → IfOk out (λ text. HasProduct product joining layers (bytes_of_text text))
  pairs_made pairs list out are same =
      text_is (IsMadeOf product joining.is_matrix joining.drawing layers list) (HasProduct product joining layers) out
      (λ text made. record {
        pairs = pairs;
        are_pairs = are;
        made = subst (λ (ps : List (ℕ × ℕ)). IsMadeOf product joining.is_matrix joining.drawing layers ps text) same made;
      })

  -- the same without matrices
  pub plain_pairs_made : (pairs list : List (ℕ × ℕ)) (out : Result Text RunFault) → ArePairs joining.stands layers pairs → list ≡ pairs
      → IfOk out (λ text. IsPlain product joining.drawing layers list (bytes_of_text text))
      → IfOk out (λ text. IsPlainProduct product joining layers (bytes_of_text text))
  plain_pairs_made pairs list out are same =
      text_is (IsPlain product joining.drawing layers list) (IsPlainProduct product joining layers) out
      (λ text made. record {
        pairs = pairs;
        are_pairs = are;
        made = subst (λ (ps : List (ℕ × ℕ)). IsPlain product joining.drawing layers ps text) same made;
      })

  -- which is the product if that has none
  pub plain_is_product : (out : Result Text RunFault) → ¬ (product ≡ Report) → ¬ (product ≡ Firsts)
      → IfOk out (λ text. IsPlainProduct product joining layers (bytes_of_text text)) → IfOk out (λ text. HasProduct product joining layers (bytes_of_text text))
  plain_is_product out all firsts =
      text_is (IsPlainProduct product joining layers) (HasProduct product joining layers) out
      (λ text is. record {
        pairs = is.pairs;
        are_pairs = is.are_pairs;
        made = plain_made product joining.is_matrix joining.drawing layers is.pairs text all firsts is.made;
      })

  -- the product of the layers of one kind
  pub product_made : (of kind : RelatedLayers) (out : Result Text RunFault) → of ≡ kind
      → ((p : Product) (text : List ℕ) → HaveProduct p of text → HasProduct p joining layers text) → IsFew product layers
      → IfOk out (λ text. HaveProduct product kind (bytes_of_text text)) → IfErr out IsLateFault → IsMade (join_making product joining) layers out
  product_made of kind out same law few has late =
      made_or_late (join_making product joining) layers out
      (text_is (HaveProduct product kind) (IsProduct product joining layers) out
      (λ text is. record { few = few; has_product = law product text (subst (λ (k : RelatedLayers). HaveProduct product k text) (sym same) is) }) has)
      late
