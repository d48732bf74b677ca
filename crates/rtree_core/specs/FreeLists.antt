-- The free lists of edits, and the number of them that an insertion uses.
use Rattle.std.specs.Prelude.{ℕ, ◌+◌, ◌≤◌, List, vec_len, All}
use Rattle.std.specs.declared.alloc.Global.{Global}
use Rattle.std.specs.declared.vec.Vec.{Vec}
use Rattle.rtree_core.specs.declared.free_lists.FreeLists.{FreeLists}
use Rattle.split_core.specs.Splits.{IsRoom}

-- each of these lists is empty, with room for a node that is to be split
abbrev pub IsFree : {T : Type 0} → List (Vec T Global) → Type 0
IsFree vs = All IsRoom vs

-- at least `count` free lists
pub record HasFree {T : Type 0} (count : ℕ) (lists : Vec (Vec T Global) Global) : Type 0 where
  pub free : IsFree lists.items
  pub enough : count ≤ vec_len lists

-- at most `count` of the free lists were used
pub record HasSpent {T : Type 0} (count : ℕ) (old new : Vec (Vec T Global) Global) : Type 0 where
  pub free : IsFree new.items
  pub len : vec_len old ≤ vec_len new + count

-- the lists for leaves and for inner nodes
pub record AreFree (free : FreeLists) : Type 0 where
  pub leaves : IsFree free.leaves.items
  pub inners : IsFree free.inners.items

-- enough lists for an insertion into a node of this level
pub record IsReady (level : ℕ) (free : FreeLists) : Type 0 where
  pub lists : AreFree free
  pub two_leaves : 2 ≤ vec_len free.leaves
  pub some_inners : level + 1 ≤ vec_len free.inners

-- the lists that remain after such an insertion
pub record IsSpent (level : ℕ) (old new : FreeLists) : Type 0 where
  pub lists : AreFree new
  pub leaf : vec_len old.leaves ≤ vec_len new.leaves + 1
  pub inner : vec_len old.inners ≤ vec_len new.inners + level
