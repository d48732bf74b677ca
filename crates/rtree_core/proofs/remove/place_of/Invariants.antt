use Rattle.std.proofs.Common.{ℕ, ◌<◌, ◌≡◌, get_or}
use Rattle.rtree_core.proofs.remove.place_of.Given as goal

abbrev pub invariant-loop-place : goal.invariant-loop-place
invariant-loop-place l = (k : ℕ) → k < l.place → get_or l.entries k l.entry ≡ l.entry → ⊥
