use Rattle.std.proofs.Common.{◌≡◌, vec_len, ap, sym, ◌∙◌}
use Rattle.std.specs.List.{flat_map}
use Rattle.rtree_core.specs.Items.{entry_alone}
use Rattle.rtree_core.specs.Nodes.{entries_of, size_of}
use Rattle.rtree_core.proofs.NodeLemmas.{lawful_level}
use Rattle.rtree_core.proofs.ItemLemmas.{as_leaf, as_leaf_level, leaf_entries, leaf_size, each_alone, as_inner}
use Rattle.rtree_core.proofs.ItemLemmas.{inner_entries, inner_size}
use Rattle.rtree_core.proofs.editable_tree.EditableTree.reinsert_node.Goals as goal

pub returns-in-Entries : goal.returns-in-Entries
returns-in-Entries c =
    let v = c.in-Entries.entries in
    let size : size_of c.args.node ≡ vec_len v = ap size_of (as_leaf c.args.node v c.in-Entries.is) ∙ leaf_size c.args.node.cover v in
    let entries : entries_of c.args.node ≡ flat_map entry_alone v.items = ap entries_of (as_leaf c.args.node v c.in-Entries.is) ∙ leaf_entries
    c.args.node.cover v ∙ sym (each_alone v.items) in
    rw (size, entries) c.insert_all.ensures

pub returns-in-Children : goal.returns-in-Children
returns-in-Children c =
    let v = c.in-Children.children in
    let size : size_of c.args.node ≡ vec_len v = ap size_of (as_inner c.args.node v c.in-Children.is) ∙ inner_size c.args.node.cover v in
    let entries : entries_of c.args.node ≡ flat_map entries_of v.items = ap entries_of (as_inner c.args.node v c.in-Children.is) ∙ inner_entries
    c.args.node.cover v in
    rw (size, entries) c.insert_all-in-Children.ensures

pub insert_all-requires-clause-fit : goal.insert_all-requires-clause-fit
insert_all-requires-clause-fit c =
    λ k d lt. sym (lawful_level c.args.level c.args.node c.requires.lawful) ∙ as_leaf_level c.args.node c.in-Entries.entries c.in-Entries.is
