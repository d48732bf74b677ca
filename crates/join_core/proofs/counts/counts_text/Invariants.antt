use Rattle.std.proofs.Common.{[], ◌∷◌, codes, map}
use Rattle.join_core.specs.Counts.{count_row}
use Rattle.join_core.proofs.CountsLemmas.{HasFront}
use Rattle.join_core.proofs.counts.counts_text.Given as goal

abbrev pub invariant-loop-feature : goal.invariant-loop-feature
invariant-loop-feature g l =
    HasFront (codes "left" ∷ codes "count" ∷ []) (map (count_row (map g.M.AsPair.pair_of l.matches))) l.writer l.feature-iterator l.left.list.features
