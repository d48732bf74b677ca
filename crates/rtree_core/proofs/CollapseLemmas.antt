-- A root whose only child takes its place.
use Rattle.std.proofs.Common.{arith, ◌≡◌, ℕ, zero, suc, ◌+◌, ◌-◌, ◌<◌, ◌≤◌, [], ◌∷◌, length, refl, sym, ◌∙◌, ap, append-nil}
use Rattle.std.specs.Prelude.{Some, ◌≢◌}
use Rattle.std.specs.List.{flat_map}
use Rattle.std.proofs.lemmas.List.Elements.{All-head}
use Rattle.split_core.specs.Limits.{fewest}
use Rattle.rtree_core.specs.declared.node.Below.{Below, out-Below}
use Rattle.rtree_core.specs.declared.node.Below.TheOpen.{Below-F, Entries, Children}
use Rattle.rtree_core.specs.declared.node.Node.{Node}
use Rattle.rtree_core.specs.declared.editable_tree.EditableTree.{EditableTree}
use Rattle.rtree_core.specs.Nodes.{entries_of, children_of, level_of, size_of, leaf_law, IsLawful, IsLawfulAt}
use Rattle.rtree_core.specs.Trees.{entries_in, height_of}
use Rattle.rtree_core.specs.EditableTrees.{IsSound, IsRooted}
use Rattle.rtree_core.proofs.NodeLemmas.{has_children, lawful_level, lawful_is}

leaf_childless : (n : Node) (b : Below-F Below Node) → out-Below n.below ≡ b → leaf_law n.cover b → children_of n ≡ []
leaf_childless n (Entries v) e h = rw e refl
leaf_childless n (Children v) e h = absurd h

-- a node and its only child
record HasLoneChild (n child : Node) : Type 0 where
  pub lawful : IsLawful child
  pub level : level_of child + 1 ≡ level_of n
  pub two : 2 ≤ size_of child
  pub entries : entries_of n ≡ entries_of child

lone_child_at : (l : ℕ) (n child : Node) → IsLawfulAt l n → children_of n ≡ child ∷ [] → HasLoneChild n child
lone_child_at zero n child h only = absurd (omega (arith, ap length (leaf_childless n (out-Below n.below) refl h), ap length only))
lone_child_at (suc l) n child h only =
    let f = has_children l n h in
    let lawful : IsLawfulAt l child = All-head (IsLawfulAt l) child [] (rw only at f.children) in
    let enough : fewest ≤ size_of child = All-head (λ m. fewest ≤ size_of m) child [] (rw only at f.enough) in
    record {
      lawful = lawful_is l child lawful;
      level = omega (arith, lawful_level l child lawful, lawful_level (suc l) n h);
      two = omega (arith, enough);
      entries = f.entries ∙ ap (flat_map entries_of) only ∙ append-nil (entries_of child);
    }

-- a root gave way to its only child
pub collapsed : (old : EditableTree) (n child : Node) →
    old.root ≡ Some n →
    IsSound old →
    children_of n ≡ child ∷ [] →
    IsRooted (record old { root = Some child; height = old.height - 1 })
collapsed old n child is sound only =
    let lone = lone_child_at (level_of n) n child (rw is at sound.lawful) only in
    record {
      sound = record {
        lawful = lone.lawful;
        height_is = omega (arith, sound.height_is, ap height_of is, lone.level);
        lists = sound.lists;
      };
      root = record { lawful = lone.lawful; two = λ above. lone.two };
    }

pub collapsed_entries : (old : EditableTree) (n child : Node) →
    old.root ≡ Some n →
    IsSound old →
    children_of n ≡ child ∷ [] →
    entries_of child ≡ entries_in old.root
collapsed_entries old n child is sound only = rw is (sym (lone_child_at (level_of n) n child (rw is at sound.lawful) only).entries)

two_at : (l : ℕ) (n : Node) → IsLawfulAt l n → 0 < l → length (children_of n) ≢ 1 → 2 ≤ size_of n
two_at zero n h above several = absurd (omega (arith, above))
two_at (suc l) n h above several = let f = has_children l n h in omega (arith, f.some, f.size, several)

-- a root without an only child stays
pub uncollapsed : (old : EditableTree) (n : Node) →
    old.root ≡ Some n →
    IsSound old →
    length (children_of n) ≢ 1 →
    IsRooted (record old { root = Some n })
uncollapsed old n is sound several =
    let lawful : IsLawful n = rw is at sound.lawful in
    record {
      sound = record { lawful = lawful; height_is = sound.height_is ∙ ap height_of is; lists = sound.lists };
      root = record { lawful = lawful; two = λ above. two_at (level_of n) n lawful above several };
    }
