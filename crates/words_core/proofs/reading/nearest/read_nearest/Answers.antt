use Rattle.std.proofs.Common.{inl, inr}
use Rattle.words_core.specs.Readings.{found_in}
use Rattle.words_core.proofs.JoinLemmas.{options_passed, options_weaker, paths_passed, paths_weaker, scale_passed, scale_refused}
use Rattle.words_core.proofs.ReadingLemmas.{fault_as}
use Rattle.words_core.proofs.reading.nearest.read_nearest.Goals as goal

pub returns-in_err-paths-clause-err : goal.returns-in_err-paths-clause-err
returns-in_err-paths-clause-err c =
    fault_as _ _ _ c.from_residual.ensures.1 (λ known.
    paths_weaker (found_in c.args.given.now) _ _ (c.in_err-paths.ensures.err known))

pub returns-in_err-options-clause-err : goal.returns-in_err-options-clause-err
returns-in_err-options-clause-err c =
    fault_as _ _ _ c.from_residual-in_err-options.ensures.1 (λ known.
    paths_passed (found_in c.args.given.now) c.in_ok-paths.paths _ _ c.in_ok-paths.ensures.ok
    (options_weaker (found_in c.args.given.now) _ _ (c.in_err-options.ensures.err known)))

pub returns-in_err-scale-clause-err : goal.returns-in_err-scale-clause-err
returns-in_err-scale-clause-err c =
    fault_as _ _ _ c.from_residual-in_err-scale.ensures.1 (λ known.
    paths_passed (found_in c.args.given.now) c.in_ok-paths.paths _ _ c.in_ok-paths.ensures.ok
    (options_passed _ _ _ _ _ c.in_ok-options.ensures.ok
    (scale_refused (found_in c.args.given.now) _ _ (c.in_err-scale.ensures.err known))))

pub returns-in_err-query-clause-err : goal.returns-in_err-query-clause-err
returns-in_err-query-clause-err c =
    fault_as _ _ _ c.from_residual-in_err-query.ensures.1 (λ known.
    paths_passed (found_in c.args.given.now) c.in_ok-paths.paths _ _ c.in_ok-paths.ensures.ok
    (options_passed _ _ _ _ _ c.in_ok-options.ensures.ok
    (scale_passed _ c.in_ok-scale.scale _ _ c.in_ok-scale.ensures.ok c.in_ok-scale.ensures.few
    (c.in_ok-scale.scale, c.in_ok-scale.ensures.ok, inl (c.in_err-query.ensures.err known)))))

pub returns-in_err-geometries-clause-err : goal.returns-in_err-geometries-clause-err
returns-in_err-geometries-clause-err c =
    let query = c.in_ok-query.ensures in
    fault_as _ _ _ c.from_residual-in_err-geometries.ensures.1 (λ known.
    paths_passed (found_in c.args.given.now) c.in_ok-paths.paths _ _ c.in_ok-paths.ensures.ok
    (options_passed _ _ _ _ _ c.in_ok-options.ensures.ok
    (scale_passed _ c.in_ok-scale.scale _ _ c.in_ok-scale.ensures.ok c.in_ok-scale.ensures.few
    (c.in_ok-scale.scale, c.in_ok-scale.ensures.ok, inr (c.in_ok-query.query, record { most = query.most; reach = query.reach }, c.in_err-geometries.ensures.err known)))))
