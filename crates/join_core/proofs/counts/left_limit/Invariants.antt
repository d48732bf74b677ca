use Rattle.std.proofs.Common.{◌<◌, ℕ, get_or}
use Rattle.join_core.proofs.counts.left_limit.Given as goal

abbrev pub invariant-loop-found : goal.invariant-loop-found
invariant-loop-found g l = (k : ℕ) (a : g.row.M.Denot) → k < l.found-index → (g.M.AsPair.pair_of (get_or l.matches k a)).0 < l.limit
