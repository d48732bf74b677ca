-- Trees: the entries below a root, and when it is the root of a lawful tree.
use Rattle.std.specs.Prelude.{◌≡◌, ℕ, ◌+◌, ◌^◌, ◌<◌, ◌≤◌, ◌==◌, Bool, List, [], Option, None, Some}
use Rattle.std.specs.Prelude.{IfSome, count_by}
use Rattle.rtree_core.specs.declared.node.Entry.{Entry}
use Rattle.rtree_core.specs.declared.node.Node.{Node}
use Rattle.rtree_core.specs.Nodes.{entries_of, level_of, size_of, IsLawful}

-- the entries of a tree, from left to right, given its root
abbrev pub entries_in : Option Node → List Entry
entries_in None = []
entries_in (Some n) = entries_of n

-- the number of levels of a tree
abbrev pub height_of : Option Node → ℕ
height_of None = 0
height_of (Some n) = level_of n + 1

-- the test of an entry having this number
abbrev pub has_number : ℕ → Entry → Bool
has_number k e = e.number == k

-- no entry has this number
abbrev pub IsFresh : ℕ → Option Node → Type 0
IsFresh k root = count_by (has_number k) (entries_in root) ≡ 0

-- a lawful node that may be a root: an inner one has at least two children
pub record IsRoot (n : Node) : Type 0 where
  pub lawful : IsLawful n
  pub two : 0 < level_of n → 2 ≤ size_of n

-- the lawful tree: the root is within Guttman's bounds, and the numbers are distinct and have 32
-- bits
pub record IsTree (root : Option Node) : Type 0 where
  pub lawful : IfSome root IsRoot
  pub distinct : (k : ℕ) → count_by (has_number k) (entries_in root) ≤ 1
  pub in_range : (k : ℕ) → 2 ^ 32 ≤ k → IsFresh k root
