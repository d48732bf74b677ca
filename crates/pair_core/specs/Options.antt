-- The three numbers of options, and their ranges.
use Rattle.std.specs.Prelude.{ℕ, ◌<◌, ◌≤◌}
use Rattle.pair_core.specs.declared.options.Options.{Options}
use Rattle.pair_core.specs.Limits.{most_workers, most_batch, most_cut}

abbrev pub workers_of : Options → ℕ
workers_of o = o.workers

abbrev pub batch_of : Options → ℕ
batch_of o = o.batch

abbrev pub cut_of : Options → ℕ
cut_of o = o.cut

abbrev pub AreWorkers : ℕ → Type 0
AreWorkers n = (0 < n) × (n ≤ most_workers)

abbrev pub IsBatch : ℕ → Type 0
IsBatch n = (0 < n) × (n ≤ most_batch)

abbrev pub IsCut : ℕ → Type 0
IsCut n = n ≤ most_cut
