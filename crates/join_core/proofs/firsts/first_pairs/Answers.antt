use Rattle.std.proofs.Common.{◌<◌, map, not, rules, subst, sym, ◌∙◌}
use Rattle.std.proofs.lemmas.List.{length-map}
use Rattle.join_core.specs.Firsts.{has_earlier}
use Rattle.join_core.proofs.FirstsLemmas.{dropped_more, kept_more, pair_at_place}
use Rattle.join_core.proofs.firsts.first_pairs.Goals.{then-is_first+in_ok-push, else-is_first}
use Rattle.join_core.proofs.firsts.first_pairs.Goals as goal

pub loop-place-preserved : goal.loop-place-preserved
loop-place-preserved g c =
    let pair_of = g.M.AsPair.pair_of in
    let matches = c.args.matches.now in
    let place = c.loop-place.place in
    let within = subst (λ n. place < n) (sym (length-map matches pair_of)) c.loop-place-test.true in
    elim c.if-is_first.branch [
      | then-is_first+in_ok-push w ↦ rw w.firsts-is
          (kept_more (λ pair. not (has_earlier (map pair_of matches) pair)) (map pair_of matches) place (0, 0) _ within c.loop-place.invariant w.as_pair.result _
          (sym (c.is_first.ensures (0, 0)) ∙ w.if-is_first.true)
          (pair_at_place pair_of matches place w.index-matches-place.result w.as_pair.result (0, 0) c.loop-place-test.true w.index-matches-place.is w.as_pair.ensures)
          (search rules))
      | else-is_first w ↦ rw w.firsts-is
          (dropped_more (λ pair. not (has_earlier (map pair_of matches) pair)) (map pair_of matches) place (0, 0) _ within c.loop-place.invariant
          (sym (c.is_first.ensures (0, 0)) ∙ w.if-is_first.false))
    ]
