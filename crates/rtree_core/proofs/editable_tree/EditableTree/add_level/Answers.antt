use Rattle.std.proofs.Common.{refl}
use Rattle.rtree_core.proofs.EditableTreeLemmas.{root_grown}
use Rattle.rtree_core.proofs.editable_tree.EditableTree.add_level.Goals as goal

pub returns : goal.returns
returns c =
    root_grown c.args.second c.unwrap-first.result c.node_of.result c.args.self.now _ c.take_list-children.result c.push_reserved.new.self c.push_reserved-2.new.self
    (cc) c.requires.first c.requires.second refl refl c.take_list-children.ensures.list c.push_reserved.ensures.items c.push_reserved-2.ensures.items
    c.node_of.ensures.node c.requires.lists c.take_list-children.ensures.free c.take_list-children.ensures.len refl
