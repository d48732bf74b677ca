-- The prepared geometries of features of a layer.
use Rattle.std.specs.Prelude.{◌≡◌, ℕ, List, Some, All}
use Rattle.layer_core.specs.Layers.{Feature, Contents, with_number}
use Rattle.prepared_core.specs.declared.layer.PreparedFeature.{PreparedFeature}

-- the geometry of the feature with this number has this prepared form
pub record FormIs {G P : Type 0} (is_form : G → P → Type 0) (layer : Contents G) (number : ℕ)
    (form : P) : Type 0 where
  pub feature : Feature G
  pub held : with_number number layer ≡ Some feature
  pub form_is : is_form feature.shape form

-- each is a prepared form of the feature with its number
abbrev pub ArePrepared : {G P : Type 0} → (G → P → Type 0) → Contents G → List (PreparedFeature P)
    → Type 0
ArePrepared is_form layer features = All (λ f. FormIs is_form layer f.number f.geometry) features
