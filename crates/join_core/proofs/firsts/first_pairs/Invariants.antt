use Rattle.std.proofs.Common.{◌≡◌, filter, map, not, take}
use Rattle.join_core.specs.Firsts.{has_earlier}
use Rattle.join_core.proofs.firsts.first_pairs.Given as goal

abbrev pub invariant-loop-place : goal.invariant-loop-place
invariant-loop-place g l =
    let pairs = map g.M.AsPair.pair_of l.matches in
    l.firsts.items ≡ filter (λ pair. not (has_earlier pairs pair)) (take l.place pairs)
