use Rattle.std.proofs.Common.{◌<◌, ℕ, get_or, length, map}
use Rattle.join_core.proofs.CountsLemmas.{AreCounts}
use Rattle.join_core.proofs.counts.count_pairs.Given as goal

abbrev pub invariant-loop-place : goal.invariant-loop-place
invariant-loop-place g l = record {
  counted : AreCounts (map g.M.AsPair.pair_of l.matches) l.place l.counts.items;
  covered : (k : ℕ) (a : g.row.M.Denot) → k < length l.matches → (g.M.AsPair.pair_of (get_or l.matches k a)).0 < length l.counts.items;
}
