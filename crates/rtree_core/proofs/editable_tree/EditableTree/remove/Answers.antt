use Rattle.std.proofs.Common.{arith, rules, ap, ◌*◌, ◌-◌, length}
use Rattle.std.specs.Prelude.{Some}
use Rattle.std.specs.List.{flat_map}
use Rattle.rtree_core.specs.Nodes.{entries_of}
use Rattle.rtree_core.specs.EditableTrees.{IsRooted}
use Rattle.rtree_core.specs.Trees.{entries_in, height_of}
use Rattle.rtree_core.proofs.EditableTreeLemmas.{can_take_less, emptied_rooted, lone_root, lost_but_back, lost_last}
use Rattle.rtree_core.proofs.NodeLemmas.{lawful_is, lawful_level}
use Rattle.rtree_core.proofs.editable_tree.EditableTree.remove.Goals as goal

pub reinsert-requires-clause-sound : goal.reinsert-requires-clause-sound
reinsert-requires-clause-sound c =
    let taken = c.take_out.ensures.taken c.if-not-take_out.false in
    let level = lawful_level _ c.take_out.new.node taken.lawful in
    record {
      lawful = lawful_is _ c.take_out.new.node taken.lawful;
      height_is = omega (arith, level, c.requires.rooted.sound.height_is, ap height_of c.in-Some.is);
      lists = c.requires.rooted.sound.lists;
    }

pub reinsert-requires-clause-can_take : goal.reinsert-requires-clause-can_take
reinsert-requires-clause-can_take c =
    let taken = c.take_out.ensures.taken c.if-not-take_out.false in
    let can = c.requires.can_take in
    can_take_less (2 * length c.take_out.new.aside.items) (2 * (c.args.self.now.height - 1)) _
    (omega (arith, taken.few, c.requires.rooted.sound.height_is, ap height_of c.in-Some.is))
    (record { leaves = can.leaves; inners = can.inners; low = can.low })

pub returns-clause-held : goal.returns-clause-held
returns-clause-held c = rw c.in-Some.is (search rules)

pub returns-clause-loses : goal.returns-clause-loses
returns-clause-loses c =
    let taken = c.take_out.ensures.taken c.if-not-take_out.false in
    λ h. rw (c.in-Some.is, c.collapse.ensures.entries)
    (lost_but_back c.args.entry.now (entries_of c.in-Some.node) (entries_of c.take_out.new.node) (flat_map entries_of c.take_out.new.aside.items)
    (entries_in c.reinsert.new.self.root) taken.loses c.reinsert.ensures.taken_in.gains)

pub remove_last-requires : goal.remove_last-requires
remove_last-requires c = record { leaf = lone_root c.in-Some.node (rw c.in-Some.is at c.requires.rooted.root) (omega arith) }

pub returns-then-size-lt2-clause-rooted : goal.returns-then-size-lt2-clause-rooted
returns-then-size-lt2-clause-rooted c =
    let rooted = c.requires.rooted in
    let same : IsRooted (record c.args.self.now { root = Some c.in-Some.node }) = record {
      sound = record {
        lawful = rw c.in-Some.is at rooted.sound.lawful;
        height_is = rw c.in-Some.is at rooted.sound.height_is;
        lists = rooted.sound.lists;
      };
      root = rw c.in-Some.is at rooted.root;
    } in
    emptied_rooted _ _ _ same c.remove_last.ensures.emptied c.remove_last.ensures.unchanged

pub returns-then-size-lt2-clause-loses : goal.returns-then-size-lt2-clause-loses
returns-then-size-lt2-clause-loses c =
    λ h. rw c.in-Some.is (lost_last _ _ _ (c.remove_last.ensures.last h) (ap (λ t. entries_in t.root) (c.remove_last.ensures.emptied h)))
