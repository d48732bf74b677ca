use Rattle.std.proofs.Common.{◌≡◌, ◌∙◌, ap, Option}
use Rattle.geom_core.specs.declared.shape.Shape.{Shape}
use Rattle.rtree_core.specs.declared.node.Node.{Node}
use Rattle.layer_core.specs.Layers.{Contents}
use Rattle.layer_core.specs.LayerTrees.{HoldsExactly}
use Rattle.layer_edit_core.proofs.editor.LayerEditor.of_layer.Goals as goal

still_holds : {G : Type 0} (box_of : G → Shape) (list held : Contents G) (root tree : Option Node) → list ≡ held → root ≡ tree → HoldsExactly box_of held tree
    → HoldsExactly box_of list root
still_holds box_of list held root tree same same_tree holds = rw (same, same_tree) holds

pub invariant_of-result : goal.invariant_of-result
invariant_of-result g c =
    still_holds g.G.Geometry.box_of _ _ _ _ (ap (λ f. f.list) c.in_ok-new.ensures.ok ∙ c.in_ok-features.ensures ∙ c.into_list-list.ensures.list)
    c.into_list-list.ensures.root c.into_list-list.ensures.exact
