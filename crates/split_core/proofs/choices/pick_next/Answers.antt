use Rattle.std.proofs.Common.{arith, ◌≡◌, ℕ, get_or, length, subst}
use Rattle.std.specs.List.{IsFirstMaxByKey}
use Rattle.std.proofs.lemmas.Bool.Decides.{nat_tests}
use Rattle.std.proofs.lemmas.List.Elements.{at_read}
use Rattle.std.proofs.lemmas.List.Sums.{best_none, best_keeps, best_takes}
use Rattle.split_core.specs.Choices.{difference}
use Rattle.split_core.proofs.choices.pick_next.Goals as goal
use Rattle.split_core.proofs.choices.pick_next.Goals.{then-is_greater, else-is_greater}

pub loop-place-init : goal.loop-place-init
loop-place-init g c =
    let key : g.row.T.Denot → ℕ = λ x. difference c.args.one.now c.args.two.now (g.T.Covered.cover x) in
    record {
      best = best_none key c.args.rest.now;
      greatest = at_read c.args.rest.now (λ x. c.difference-greatest.result ≡ key x) 0 c.index-rest-0.result c.requires c.index-rest-0.is
          (rw (← c.cover.ensures) c.difference-greatest.ensures);
    }

pub returns : goal.returns
returns g c =
    let key : g.row.T.Denot → ℕ = λ x. difference c.args.one.now c.args.two.now (g.T.Covered.cover x) in
    let upto = c.loop-place.auto.place-end (omega arith) in
    let same : c.loop-place.place ≡ length c.args.rest.now = omega (arith, upto) in
    subst (λ n. IsFirstMaxByKey key c.args.rest.now n c.loop-place.best) same c.loop-place.invariant.best

pub loop-place-preserved : goal.loop-place-preserved
loop-place-preserved g c =
    let at : (d : g.row.T.Denot) → c.difference-difference.result ≡ difference c.args.one.now c.args.two.now
    (g.T.Covered.cover (get_or c.args.rest.now c.loop-place.place d)) =
    at_read c.args.rest.now (λ x. c.difference-difference.result ≡ difference c.args.one.now c.args.two.now (g.T.Covered.cover x)) c.loop-place.place
    c.index-rest-place.result c.loop-place-test.true c.index-rest-place.is (rw (← c.cover-cover.ensures) c.difference-difference.ensures) in
    let key : g.row.T.Denot → ℕ = λ x. difference c.args.one.now c.args.two.now (g.T.Covered.cover x) in
    elim c.if-is_greater.branch [
      | then-is_greater w ↦ record {
        best = rw w.best-is (best_takes key c.args.rest.now _ _ c.loop-place.invariant.best (λ d. grind (arith, nat_tests, at d, c.loop-place.invariant.greatest d)));
        greatest = rw (w.best-is, w.greatest-is) at;
      }
      | else-is_greater w ↦ record {
        best = rw w.best-is (best_keeps key c.args.rest.now _ _ c.loop-place.invariant.best (λ d. grind (arith, nat_tests, at d, c.loop-place.invariant.greatest d)));
        greatest = rw (w.best-is, w.greatest-is) c.loop-place.invariant.greatest;
      }
    ]
