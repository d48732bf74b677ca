use Rattle.std.proofs.Common.{◌<◌, ◌≤◌, ◌^◌, ℕ, get_or}
use Rattle.report_core.proofs.columns.bounds.Given as goal

abbrev pub invariant-loop-found : goal.invariant-loop-found
invariant-loop-found g l = record {
  left_above : (k : ℕ) (a : g.row.M.Denot) → k < l.found-index → (g.M.AsPair.pair_of (get_or l.matches k a)).0 < l.left;
  right_above : (k : ℕ) (a : g.row.M.Denot) → k < l.found-index → (g.M.AsPair.pair_of (get_or l.matches k a)).1 < l.right;
  left_few : l.left ≤ 2 ^ 32;
  right_few : l.right ≤ 2 ^ 32;
}
