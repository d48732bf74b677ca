use Rattle.std.proofs.Common.{arith, rules}
use Rattle.rtree_core.specs.Nodes.{entries_of}
use Rattle.rtree_core.proofs.HeightLemmas.{root_height}
use Rattle.rtree_core.proofs.TreeLemmas.{same_length}
use Rattle.rtree_core.proofs.tree.RTree.from_pages.Goals as goal

pub invariant_of-result : goal.invariant_of-result
invariant_of-result c =
    let packed = c.in_ok-root.ensures in
    record {
      tree = packed.tree;
      sound = record { lawful = packed.tree.lawful.lawful; height_is = packed.height_is; lists = search rules };
      len = omega (arith, c.len-len.ensures, c.args.entries.ok.0, same_length c.args.entries.items (entries_of c.in_ok-root.root) packed.same);
      none_aside = search rules;
    }

pub returns-clause-height : goal.returns-clause-height
returns-clause-height c = root_height _ _ c.in_ok-root.ensures.packing

pub returns-clause-entries : goal.returns-clause-entries
returns-clause-entries c = c.in_ok-root.ensures.same

pub returns-clause-packing : goal.returns-clause-packing
returns-clause-packing c = c.in_ok-root.ensures.packing

pub returns-clause-packed : goal.returns-clause-packed
returns-clause-packed c = c.in_ok-root.ensures.packed
