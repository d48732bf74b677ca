-- Indexes of outermost edges.
use Rattle.std.specs.Prelude.{ℕ, ◌≤◌}
use Rattle.edge_index_core.specs.declared.starts.Starts.{Starts}

-- the indexes are at most a length
pub record AreWithin (n : ℕ) (starts : Starts) : Type 0 where
  pub low : starts.low ≤ n
  pub left : starts.left ≤ n
  pub right : starts.right ≤ n
