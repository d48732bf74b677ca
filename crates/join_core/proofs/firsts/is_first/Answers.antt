use Rattle.std.proofs.Common.{◌-◌, ◌<◌, ap, arith, pos_of_ne-zero, refl, subst, sym}
use Rattle.std.proofs.lemmas.List.{length-map}
use Rattle.join_core.proofs.FirstsLemmas.{first_behind, first_of_all, pair_at_place}
use Rattle.join_core.proofs.firsts.is_first.Goals as goal

pub returns-then-place-eq0 : goal.returns-then-place-eq0
returns-then-place-eq0 g c = λ d. first_of_all _ c.requires.order d c.args.place c.if-place-eq0.true

pub returns : goal.returns
returns g c = λ d.
    let pair_of = g.M.AsPair.pair_of in
    let matches = c.args.matches.now in
    let place = c.args.place in
    let some = pos_of_ne-zero c.if-place-eq0.false in
    first_behind _ c.requires.order d place _ _ some (subst (λ n. place < n) (sym (length-map matches pair_of)) c.requires.within)
    (ap (λ p. p.0) (pair_at_place pair_of matches (place - 1) c.index-matches-place.result c.as_pair-before.result d (omega (arith, c.requires.within, some)) c.index-matches-place.is c.as_pair-before.ensures))
    (ap (λ p. p.0) (pair_at_place pair_of matches place c.index-matches-place-2.result c.as_pair-left.result d c.requires.within c.index-matches-place-2.is c.as_pair-left.ensures))
    _ refl
