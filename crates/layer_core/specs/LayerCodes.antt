-- The coding of a layer's visible state, by which proofs distinguish layers.
use Rattle.std.specs.Prelude.{ℕ, List, Option, refl}
use Rattle.std.specs.Coded.{Coded, code_by, coded×, coded_ℕ, coded_list, coded_option}
use Rattle.rtree_core.specs.declared.node.Node.{Node}
use Rattle.rtree_core.specs.contracts.node.Node as node
use Rattle.layer_core.specs.Layers.{Feature, Contents}
use Rattle.layer_core.specs.LayerTrees.{LayerState}

-- a feature, as its id, its number and its shape
abbrev pub coded_feature : {G : Type 0} → Coded G → Coded (Feature G)
coded_feature {G = G} coded_shape =
    code_by (List ℕ × (ℕ × G))
    (coded× (coded_list coded_ℕ) (coded× coded_ℕ coded_shape))
    (λ f. (f.id, (f.number, f.shape)))
    (λ p. record { id = p.0; number = p.1.0; shape = p.1.1 }) (λ _. refl)

-- the list of features, with the next number
abbrev pub coded_contents : {G : Type 0} → Coded G → Coded (Contents G)
coded_contents {G = G} coded_shape =
    code_by (List (Feature G) × ℕ) (coded× (coded_list (coded_feature coded_shape)) coded_ℕ)
    (λ c. (c.features, c.next)) (λ p. record { features = p.0; next = p.1 }) (λ _. refl)

-- the list with the root
abbrev pub coded_layer : {G : Type 0} → Coded G → Coded (LayerState G)
coded_layer {G = G} coded_shape =
    code_by (Contents G × Option Node)
    (coded× (coded_contents coded_shape) (coded_option node.the_row.coded))
    (λ s. (s.list, s.root)) (λ p. record { list = p.0; root = p.1 }) (λ _. refl)
