use Rattle.std.proofs.Common.{refl}
use Rattle.words_core.specs.Readings.{found_in}
use Rattle.words_core.proofs.JoinLemmas.{join_allows, join_misses, join_passes, join_refuses, options_passed, options_weaker, paths_weaker, scale_refused}
use Rattle.words_core.proofs.ReadingLemmas.{fault_as}
use Rattle.words_core.proofs.reading.join.read_request.Goals as goal

pub returns-in_err-paths-clause-err : goal.returns-in_err-paths-clause-err
returns-in_err-paths-clause-err c =
    fault_as _ _ _ c.from_residual.ensures.1 (λ known.
    paths_weaker (found_in c.args.given.now) _ _ (c.in_err-paths.ensures.err known))

pub returns-in_err-word-clause-err : goal.returns-in_err-word-clause-err
returns-in_err-word-clause-err c =
    fault_as _ _ _ c.from_residual-in_err-word.ensures.1 (λ known.
    join_misses (found_in c.args.given.now) c.in_ok-paths.paths _ c.in_ok-paths.ensures.ok
    c.in_err-word.ensures.none (c.in_err-word.ensures.told known))

pub returns-in_err-relation-clause-err : goal.returns-in_err-relation-clause-err
returns-in_err-relation-clause-err c =
    fault_as _ _ _ c.from_residual-in_err-relation.ensures.1 (λ known.
    join_refuses (found_in c.args.given.now) c.in_ok-paths.paths _ c.in_ok-paths.ensures.ok
    _ c.in_ok-word.ensures.ok (c.in_err-relation.ensures.err known))

pub returns-in_err-named-clause-err : goal.returns-in_err-named-clause-err
returns-in_err-named-clause-err c =
    fault_as _ _ _ c.from_residual-in_err-named.ensures.1 (λ _.
    join_allows (found_in c.args.given.now) c.in_ok-paths.paths _ c.in_ok-paths.ensures.ok
    _ c.in_ok-word.ensures.ok _ c.in_ok-relation.ensures.ok c.in_err-named.ensures.err refl)

pub returns-in_err-options-clause-err : goal.returns-in_err-options-clause-err
returns-in_err-options-clause-err c =
    fault_as _ _ _ c.from_residual-in_err-options.ensures.1 (λ known.
    join_passes (found_in c.args.given.now) c.in_ok-paths.paths _ c.in_ok-paths.ensures.ok
    _ c.in_ok-word.ensures.ok _ c.in_ok-relation.ensures.ok c.in_ok-named.ensures.forbids
    (options_weaker (found_in c.args.given.now) _ _ (c.in_err-options.ensures.err known)))

pub returns-in_err-scale-clause-err : goal.returns-in_err-scale-clause-err
returns-in_err-scale-clause-err c =
    fault_as _ _ _ c.from_residual-in_err-scale.ensures.1 (λ known.
    join_passes (found_in c.args.given.now) c.in_ok-paths.paths _ c.in_ok-paths.ensures.ok
    _ c.in_ok-word.ensures.ok _ c.in_ok-relation.ensures.ok c.in_ok-named.ensures.forbids
    (options_passed _ _ _ _ _ c.in_ok-options.ensures.ok
    (scale_refused (found_in c.args.given.now) _ _ (c.in_err-scale.ensures.err known))))
