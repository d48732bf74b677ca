use Rattle.std.proofs.Common.{[], ◌∷◌, codes, filter, map}
use Rattle.join_core.specs.Counts.{is_unmatched}
use Rattle.join_core.proofs.CountsLemmas.{HasFront}
use Rattle.join_core.proofs.counts.unmatched_text.Given as goal

abbrev pub invariant-loop-feature : goal.invariant-loop-feature
invariant-loop-feature g l =
    let pairs = map g.M.AsPair.pair_of l.matches in
    HasFront (codes "left" ∷ []) (λ fs. map (λ f. f.id ∷ []) (filter (is_unmatched pairs) fs)) l.writer l.feature-iterator l.left.list.features
