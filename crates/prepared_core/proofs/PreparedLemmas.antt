-- The prepared geometry of a feature is that of the feature.
use Rattle.std.proofs.Common.{◌≡◌, List, [], ◌∷◌, ◌++◌, refl, sym, subst}
use Rattle.std.specs.Prelude.{ℕ, Option, Some, None, IfSome, option_map}
use Rattle.std.specs.Borrow.{Bor}
use Rattle.std.specs.Slice.{IsItemAt}
use Rattle.std.proofs.lemmas.List.Elements.{All-push}
use Rattle.layer_core.specs.Layers.{Feature, Contents, with_number, ShapeIs}
use Rattle.prepared_core.specs.declared.layer.PreparedFeature.{PreparedFeature}
use Rattle.prepared_core.specs.Prepared.{ArePrepared, FormIs}

module _ {G P : Type 0} (is_form : G → P → Type 0) where
  of_found : (layer : Contents G) (n : ℕ) (found : Option (Feature G)) (g : Bor G) (p : P) → with_number n layer ≡ found → ShapeIs (Some g) found → is_form g.now p
      → FormIs is_form layer n p
  of_found layer n None g p held is form = absurd (let not = is in cc)
  of_found layer n (Some f) g p held is form =
      let some : Some g.now ≡ Some f.shape = is in
      let same : g.now ≡ f.shape = cc in
      record { feature = f; held = held; form_is = subst (λ (x : G). is_form x p) same form }

  -- the form of a geometry that was found under a number
  pub of_shape : (layer : Contents G) (n : ℕ) (g : Bor G) (p : P) → ShapeIs (Some g) (with_number n layer) → is_form g.now p → FormIs is_form layer n p
  of_shape layer n g p is form = of_found layer n (with_number n layer) g p refl is form

  -- a form under a number is one of the geometry that was found under it
  same_geometry : (g : Bor G) (f : Feature G) (found : Option (Feature G)) → found ≡ Some f → ShapeIs (Some g) found → f.shape ≡ g.now
  same_geometry g f found held is =
      let same : Some g.now ≡ Some f.shape = subst (λ (t : Option (Feature G)). Some g.now ≡ option_map (λ f. f.shape) t) held is in cc

  pub form_of_shape : (layer : Contents G) (n : ℕ) (g : Bor G) (p : Option (Bor P)) → ShapeIs (Some g) (with_number n layer)
      → IfSome p (λ q. FormIs is_form layer n q.now) → IfSome p (λ q. is_form g.now q.now)
  form_of_shape layer n g None is form = tt
  form_of_shape layer n g (Some q) is form =
      subst (λ (x : G). is_form x q.now) (same_geometry g form.feature (with_number n layer) form.held is) form.form_is

  -- the form at a place
  pub prepared_at : (layer self : Contents G) (items features : List (PreparedFeature P)) (n place : ℕ) (b : Bor (PreparedFeature P)) → layer ≡ self → items ≡ features
      → ArePrepared is_form layer features → IsItemAt items place (Some b) → b.now.number ≡ n → FormIs is_form self n b.now.geometry
  prepared_at layer self items features n place b self_is items_is are at number_is =
      let all = subst (ArePrepared is_form layer) (sym items_is) are in
      let own = subst (λ (f : PreparedFeature P). FormIs is_form layer f.number f.geometry) (sym at.1) (all place b.now at.3.0) in
      subst (λ (k : ℕ). FormIs is_form self k b.now.geometry) number_is
      (subst (λ (l : Contents G). FormIs is_form l b.now.number b.now.geometry) self_is own)

  -- one more feature
  pub more_prepared : (layer : Contents G) (old new : List (PreparedFeature P)) (n : ℕ) (g : Bor G) (p : P) → ArePrepared is_form layer old
      → ShapeIs (Some g) (with_number n layer) → is_form g.now p → new ≡ old ++ record { number = n; geometry = p } ∷ [] → ArePrepared is_form layer new
  more_prepared layer old new n g p are is form grown =
      subst (ArePrepared is_form layer) (sym grown) (All-push (λ f. FormIs is_form layer f.number f.geometry) old _ are (of_shape layer n g p is form))
