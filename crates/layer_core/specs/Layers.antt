-- A layer, as the list of its features.
use Rattle.std.specs.Prelude.{◌≡◌, ◌≢◌, ◌==◌, ℕ, ◌+◌, ◌<◌, ◌≤◌, Bool, not, List, [], ◌∷◌, ◌++◌}
use Rattle.std.specs.Prelude.{Option, All, AllPairs, filter, find, option_map}
use Rattle.std.specs.Borrow.{Bor}
use Rattle.std.specs.Str.{bytes_eq}
use Rattle.layer_core.specs.Limits.{most_features}

-- a feature: its id, the number that it was given, and its shape, a geometry of the type G
pub record Feature (G : Type 0) : Type 0 where
  pub id : List ℕ
  pub number : ℕ
  pub shape : G

-- the features in layer order, and the number of the next one
pub record Contents (G : Type 0) : Type 0 where
  pub features : List (Feature G)
  pub next : ℕ

abbrev pub empty : {G : Type 0} → Contents G
empty = record { features = []; next = 0 }

-- ids are distinct, and numbers ascend and are less than the next, which is at most 1,000,000
pub record IsLayer {G : Type 0} (layer : Contents G) : Type 0 where
  pub distinct : AllPairs (λ f g. f.id ≢ g.id) layer.features
  pub rising : AllPairs (λ f g. f.number < g.number) layer.features
  pub below_next : All (λ f. f.number < layer.next) layer.features
  pub few : layer.next ≤ most_features

abbrev pub has_id : {G : Type 0} → List ℕ → Feature G → Bool
has_id id f = bytes_eq id f.id

abbrev pub has_number : {G : Type 0} → ℕ → Feature G → Bool
has_number number f = number == f.number

-- the feature with this id
abbrev pub with_id : {G : Type 0} → List ℕ → Contents G → Option (Feature G)
with_id id layer = find (has_id id) layer.features

-- the feature with this number
abbrev pub with_number : {G : Type 0} → ℕ → Contents G → Option (Feature G)
with_number number layer = find (has_number number) layer.features

-- the layer with one more feature at its end
abbrev pub inserted : {G : Type 0} → Contents G → List ℕ → G → Contents G
inserted layer id shape = record {
  features = layer.features ++ record { id = id; number = layer.next; shape = shape } ∷ [];
  next = layer.next + 1;
}

-- the layer without the feature that has this id
abbrev pub deleted : {G : Type 0} → Contents G → List ℕ → Contents G
deleted layer id = record layer { features = filter (λ f. not (has_id id f)) layer.features }

abbrev pub number_and_shape : {G : Type 0} → ℕ × Bor G → ℕ × G
number_and_shape answer = (answer.0, answer.1.now)

abbrev pub id_and_shape : {G : Type 0} → Bor (List ℕ) × Bor G → List ℕ × G
id_and_shape answer = (answer.0.now, answer.1.now)

-- the result of a lookup by id: the number and the shape
abbrev pub NumberAndShapeAre : {G : Type 0} → Option (ℕ × Bor G) → Option (Feature G) → Type 0
NumberAndShapeAre answer feature =
    option_map number_and_shape answer ≡ option_map (λ f. (f.number, f.shape)) feature

-- the result of a lookup by number: the id and the shape
abbrev pub IdAndShapeAre : {G : Type 0}
    → Option (Bor (List ℕ) × Bor G) → Option (Feature G) → Type 0
IdAndShapeAre answer feature =
    option_map id_and_shape answer ≡ option_map (λ f. (f.id, f.shape)) feature

-- what a look-up by number answers that leaves the id out: the shape
abbrev pub ShapeIs : {G : Type 0} → Option (Bor G) → Option (Feature G) → Type 0
ShapeIs answer feature = option_map (λ a. a.now) answer ≡ option_map (λ f. f.shape) feature
