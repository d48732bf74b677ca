use Rattle.std.proofs.Common.{refl}
use Rattle.rtree_core.proofs.EditableTreeLemmas.{root_stays, root_splits}
use Rattle.rtree_core.proofs.NodeLemmas.{lawful_is, lawful_level}
use Rattle.rtree_core.proofs.editable_tree.EditableTree.insert.Goals as goal

pub returns-in-Some-split : goal.returns-in-Some-split
returns-in-Some-split g c =
    root_splits (g.T.Item.entries c.args.item) (g.T.Covered.cover c.args.item) c.args.self.now c.in-Some.root c.in-Some.is c.requires.sound _ _
    _ c.in-Some-split.second refl refl c.in-Some-split.ensures.inserted c.in-Some-split.ensures.spent (search)

pub returns-in_default : goal.returns-in_default
returns-in_default g c =
    root_stays (g.T.Item.entries c.args.item) (g.T.Covered.cover c.args.item) c.args.self.now c.in-Some.root c.in-Some.is c.requires.sound _
    _ refl refl c.in_default.ensures.inserted c.in_default.ensures.spent

pub add_level-requires-clause-first : goal.add_level-requires-clause-first
add_level-requires-clause-first g c =
    let halves = c.in-Some-split.ensures.inserted in
    (rw (lawful_level _ c.in-Some-split.second halves.two_lawful) halves.one_lawful, halves.one_enough)

pub add_level-requires-clause-second : goal.add_level-requires-clause-second
add_level-requires-clause-second g c =
    let halves = c.in-Some-split.ensures.inserted in
    (lawful_is _ c.in-Some-split.second halves.two_lawful, halves.two_enough)
