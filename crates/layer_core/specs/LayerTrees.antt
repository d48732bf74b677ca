-- The tree of a layer, which holds exactly its features.
use Rattle.std.specs.Prelude.{List, Option, map}
use Rattle.geom_core.specs.declared.shape.Shape.{Shape}
use Rattle.rtree_core.specs.declared.node.Entry.{Entry}
use Rattle.rtree_core.specs.declared.node.Node.{Node}
use Rattle.rtree_core.specs.Collections.{HasSame}
use Rattle.rtree_core.specs.Trees.{entries_in, IsTree}
use Rattle.layer_core.specs.Layers.{Feature, Contents}

-- the visible state of a layer: the list of its features, and the root of its tree
pub record LayerState (G : Type 0) : Type 0 where
  pub list : Contents G
  pub root : Option Node

-- what the tree holds of a feature: its box and its number
abbrev pub indexed : {G : Type 0} → (G → Shape) → Feature G → Entry
indexed box_of f = record { shape = box_of f.shape; number = f.number }

-- the entries of a layer's tree, in layer order
abbrev pub entries_for : {G : Type 0} → (G → Shape) → Contents G → List Entry
entries_for box_of layer = map (indexed box_of) layer.features

-- the tree with this root holds the boxes of the list's features with their numbers, each once,
-- and nothing else
abbrev pub HoldsExactly : {G : Type 0} → (G → Shape) → Contents G → Option Node → Type 0
HoldsExactly box_of layer root = HasSame (entries_for box_of layer) (entries_in root)

-- the tree is lawful and holds exactly the features
pub record IsTreeOf
    {G : Type 0} (box_of : G → Shape) (layer : Contents G) (root : Option Node)
    : Type 0 where
  pub lawful : IsTree root
  pub same : HoldsExactly box_of layer root
