use Rattle.std.proofs.Common.{rules, ◌≡◌, ℕ, Option}
use Rattle.geom_core.specs.declared.shape.Shape.{Shape}
use Rattle.rtree_core.specs.declared.node.Node.{Node}
use Rattle.rtree_core.specs.Trees.{IsFresh}
use Rattle.layer_core.specs.Layers.{Contents, IsLayer}
use Rattle.layer_core.specs.LayerTrees.{HoldsExactly}
use Rattle.layer_edit_core.proofs.LayerTreeLemmas.{next-fresh}
use Rattle.layer_edit_core.proofs.editor.LayerEditor.insert.Goals as goal

fresh_next : {G : Type 0} (box_of : G → Shape) (list : Contents G) (held root : Option Node) (number : ℕ) → IsLayer list → HoldsExactly box_of list held → root ≡ held → number ≡ list.next
    → IsFresh number root
fresh_next box_of list held root number is_layer holds same next = rw (same, next) (next-fresh box_of list held is_layer holds)

pub insert-requires : goal.insert-requires
insert-requires g c =
    let is_layer = rw (← c.self.view_is) at c.in_default.ensures.layer in
    fresh_next g.G.Geometry.box_of c.self.inside.features.value.list c.self.inside.tree.value _ _ is_layer c.self.invariant (search rules) (search rules)
