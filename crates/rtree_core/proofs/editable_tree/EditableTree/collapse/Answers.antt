use Rattle.std.proofs.Common.{refl}
use Rattle.rtree_core.proofs.CollapseLemmas.{collapsed, collapsed_entries, uncollapsed}
use Rattle.rtree_core.proofs.editable_tree.EditableTree.collapse.Goals as goal

pub returns-in-Some-take_lone_child-clause-rooted : goal.returns-in-Some-take_lone_child-clause-rooted
returns-in-Some-take_lone_child-clause-rooted c =
    collapsed c.args.self.now c.in-Some.root c.in-Some-take_lone_child.child c.in-Some.is c.requires c.in-Some-take_lone_child.ensures.taken

pub returns-in-Some-take_lone_child-clause-entries : goal.returns-in-Some-take_lone_child-clause-entries
returns-in-Some-take_lone_child-clause-entries c =
    collapsed_entries c.args.self.now c.in-Some.root c.in-Some-take_lone_child.child c.in-Some.is c.requires c.in-Some-take_lone_child.ensures.taken

pub returns-in_default-take_lone_child-clause-rooted : goal.returns-in_default-take_lone_child-clause-rooted
returns-in_default-take_lone_child-clause-rooted c =
    let kept = c.in_default-take_lone_child.ensures in
    rw kept.same (uncollapsed c.args.self.now c.in-Some.root c.in-Some.is c.requires kept.several)

pub returns-in_default-take_lone_child-clause-entries : goal.returns-in_default-take_lone_child-clause-entries
returns-in_default-take_lone_child-clause-entries c = rw (c.in_default-take_lone_child.ensures.same, c.in-Some.is) refl
