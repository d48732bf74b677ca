use Rattle.std.proofs.Common.{◌≡◌, ℕ, suc, ◌-◌, ◌^◌, ◌≤◌}
use Rattle.split_core.specs.Limits.{most}
use Rattle.rtree_core.proofs.tree.RTree.packed_height.Given as goal

-- so many levels have this room, and no fewer are enough
abbrev pub invariant-loop-room : goal.invariant-loop-room
invariant-loop-room l = record {
  some : 1 ≤ l.height;
  low : l.height ≤ l.room;
  room : l.room ≡ most ^ l.height;
  least : (levels : ℕ) → l.fn.entries ≤ most ^ suc levels → l.height ≤ suc levels;
}

abbrev pub decreases-loop-room : goal.decreases-loop-room
decreases-loop-room l = l.fn.entries - l.room
