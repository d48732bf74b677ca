use Rattle.std.proofs.Common.{ℕ, ◌<◌, get_or}
use Rattle.ring_core.specs.Candidates.{MeetsLater}
use Rattle.ring_core.proofs.rings.meets_each_later.Given as goal

abbrev pub invariant-loop-k : goal.invariant-loop-k
invariant-loop-k l = (p : ℕ) → p < l.k-index → MeetsLater l.edges l.e l.i (get_or l.places p 0)
