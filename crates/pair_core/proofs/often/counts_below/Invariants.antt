use Rattle.std.proofs.Common.{◌≡◌, ◌<◌, ℕ, length, min, take}
use Rattle.std.specs.List.{slice_index_or}
use Rattle.pair_core.specs.Often.{occurrences}
use Rattle.pair_core.proofs.often.counts_below.Given as goal

abbrev pub invariant-loop-pair : goal.invariant-loop-pair
invariant-loop-pair l = (length l.counts.items ≡ l.limit)
    × ((n d : ℕ) → n < l.limit → slice_index_or l.counts.items n d ≡ min 2 (occurrences l.side n (take l.pair-index l.pairs)))
