use Rattle.std.proofs.Common.{arith, ◌≡◌, ◌-◌, ◌+◌, ◌*◌, ◌<◌, ◌++◌, [], ◌∷◌, length, take, drop, ap, sym, ◌∙◌, get_or, drop-drop, get_or-drop, add-zero, subst}
use Rattle.std.proofs.lemmas.Bool.Decides.{nat_tests}
use Rattle.std.proofs.lemmas.List.{append-nil, take_more, take_all, length-drop}
use Rattle.std.proofs.lemmas.List.Concat.{flat_map-append}
use Rattle.std.specs.List.{flat_map}
use Rattle.split_core.specs.Limits.{fewest}
use Rattle.rtree_core.specs.Nodes.{entries_of, size_of}
use Rattle.rtree_core.proofs.EditableTreeLemmas.{can_take_less, took_both}
use Rattle.rtree_core.proofs.editable_tree.EditableTree.reinsert.Goals as goal
use Rattle.rtree_core.proofs.editable_tree.EditableTree.reinsert.Goals.{After-remove-node}

-- a node is left
inside : (c : After-remove-node) → c.loop-aside.level < length c.args.aside.now.items
inside c =
    let some : 0 < length c.loop-aside.aside.items = grind (arith, nat_tests, c.loop-aside-test.true, c.is_empty.ensures, c.loop-aside.aside.ok.0) in
    omega (arith, some, ap length c.loop-aside.invariant.rest, length-drop c.loop-aside.level c.args.aside.now.items)

-- which is the one of this level
node_is : (c : After-remove-node) → c.remove-node.result ≡ get_or c.args.aside.now.items c.loop-aside.level c.remove-node.result
node_is c =
    c.remove-node.ensures.value
    ∙ ap (λ xs. get_or xs 0 c.remove-node.result) c.loop-aside.invariant.rest
    ∙ get_or-drop c.loop-aside.level c.args.aside.now.items 0 c.remove-node.result
    ∙ ap (λ k. get_or c.args.aside.now.items k c.remove-node.result) (add-zero c.loop-aside.level)

node_size : (c : After-remove-node) → size_of c.remove-node.result ≡ 2
node_size c =
    let of_two : size_of c.remove-node.result + 1 ≡ fewest = subst (λ n. size_of n + 1 ≡ fewest) (sym (node_is c))
    (c.requires.are_aside c.loop-aside.level c.remove-node.result (inside c)).1 in
    omega (arith, of_two)

pub reinsert_node-requires-clause-can_take : goal.reinsert_node-requires-clause-can_take
reinsert_node-requires-clause-can_take c =
    let at = (goal.at.reinsert_node-requires-clause-can_take c).After-remove-node in
    let done = 2 * c.loop-aside.level in
    let left = 2 * length c.args.aside.now.items - done in
    can_take_less (size_of c.remove-node.result) left c.loop-aside.self (omega (arith, node_size at, inside at))
    (c.loop-aside.invariant.taken_in.spent left (can_take_less (done + left) (2 * length c.args.aside.now.items) c.args.self.now (omega (arith, inside at))
    c.requires.can_take))

pub loop-aside-preserved : goal.loop-aside-preserved
loop-aside-preserved c =
    let at = (goal.at.loop-aside-preserved c).After-remove-node in
    let level = c.loop-aside.level in
    let nodes = c.args.aside.now.items in
    let node = c.remove-node.result in
    let count : 2 * (level + 1) ≡ 2 * level + size_of node = omega (arith, node_size at) in
    let more : take (level + 1) nodes ≡ take level nodes ++ node ∷ [] = take_more nodes level node (inside at) ∙ ap (λ n. take level nodes ++ n ∷ [])
    (sym (node_is at)) in
    let entries : flat_map entries_of (take level nodes ++ node ∷ []) ≡ flat_map entries_of (take level nodes) ++ entries_of node = flat_map-append
    entries_of (take level nodes) (node ∷ []) ∙ ap (λ es. flat_map entries_of (take level nodes) ++ es) (append-nil (entries_of node)) in
    record {
      few = omega (arith, inside at);
      rest = c.remove-node.ensures.items ∙ ap (drop 1) c.loop-aside.invariant.rest ∙ drop-drop 1 level nodes;
      taken_in =
          rw (count, more, entries)
          (took_both (2 * level) (size_of node) (flat_map entries_of (take level nodes)) (entries_of node) _ _ _ c.loop-aside.invariant.taken_in
          c.reinsert_node.ensures);
    }

pub returns-clause-taken_in : goal.returns-clause-taken_in
returns-clause-taken_in c =
    let nodes = c.args.aside.now.items in
    let none : length c.loop-aside.aside.items ≡ 0 = grind (arith, nat_tests, c.loop-aside-test.false, c.is_empty.ensures, c.loop-aside.aside.ok.0) in
    let all : c.loop-aside.level ≡ length nodes = omega (arith, c.loop-aside.invariant.few, ap length c.loop-aside.invariant.rest, length-drop c.loop-aside.level nodes, none) in
    rw (all, take_all (length nodes) nodes (omega arith)) at c.loop-aside.invariant.taken_in
