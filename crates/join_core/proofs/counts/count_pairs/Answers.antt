use Rattle.std.proofs.Common.{◌+◌, ◌<◌, ap, get_or, length, length-set, map, subst, sym, ◌∙◌}
use Rattle.std.proofs.lemmas.List.{length-map}
use Rattle.join_core.proofs.CountsLemmas.{one_counted}
use Rattle.join_core.proofs.FirstsLemmas.{pair_at_place}
use Rattle.join_core.proofs.counts.count_pairs.Goals as goal

pub loop-place-preserved : goal.loop-place-preserved
loop-place-preserved g c =
    let pair_of = g.M.AsPair.pair_of in
    let matches = c.args.matches.now in
    let place = c.loop-place.place in
    let old = c.loop-place.counts.items in
    let pair = c.as_pair-left.result in
    let item = c.index-matches-place.result in
    let within = c.loop-place-test.true in
    let below = subst (λ p. p.0 < length old) (sym c.as_pair-left.ensures)
    (subst (λ m. (pair_of m).0 < length old) (sym c.index-matches-place.is) (c.loop-place.invariant.covered place item within)) in
    let same = ap length c.count_once.ensures ∙ length-set old pair.0 (get_or old pair.0 0 + 1) in
    record {
      counted = one_counted (map pair_of matches) place pair (0, 0) old _ (subst (λ n. place < n) (sym (length-map matches pair_of)) within)
          (pair_at_place pair_of matches place item pair (0, 0) within c.index-matches-place.is c.as_pair-left.ensures) c.loop-place.invariant.counted below
          c.count_once.ensures;
      covered = λ k m less. subst (λ n. (pair_of (get_or matches k m)).0 < n) (sym same) (c.loop-place.invariant.covered k m less);
    }
