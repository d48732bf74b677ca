use Rattle.words_core.specs.Readings.{of_relate, of_join, of_draw, of_near, of_nearest, of_window, of_stats, of_bounds}
use Rattle.words_core.proofs.ReadingLemmas.{fault_weaker, named, unnamed}
use Rattle.words_core.proofs.reading.read_named.Goals as goal

pub returns-in-relate-clause-err : goal.returns-in-relate-clause-err
returns-in-relate-clause-err c =
    fault_weaker _ _ _ (λ f h. named _ f _ _ c.in-relate.is (of_relate h)) (search)

pub returns-in-join-clause-err : goal.returns-in-join-clause-err
returns-in-join-clause-err c =
    fault_weaker _ _ _ (λ f h. named _ f _ _ c.in-join.is (of_join h)) (search)

pub returns-in-near-clause-err : goal.returns-in-near-clause-err
returns-in-near-clause-err c =
    fault_weaker _ _ _ (λ f h. named _ f _ _ c.in-near.is (of_near h)) (search)

pub returns-in-nearest-clause-err : goal.returns-in-nearest-clause-err
returns-in-nearest-clause-err c =
    fault_weaker _ _ _ (λ f h. named _ f _ _ c.in-nearest.is (of_nearest h)) (search)

pub returns-in-draw-clause-err : goal.returns-in-draw-clause-err
returns-in-draw-clause-err c =
    fault_weaker _ _ _ (λ f h. named _ f _ _ c.in-draw.is (of_draw h)) (search)

pub returns-in-window-clause-err : goal.returns-in-window-clause-err
returns-in-window-clause-err c =
    fault_weaker _ _ _ (λ f h. named _ f _ _ c.in-window.is (of_window h)) (search)

pub returns-in-stats-clause-err : goal.returns-in-stats-clause-err
returns-in-stats-clause-err c =
    fault_weaker _ _ _ (λ f h. named _ f _ _ c.in-stats.is (of_stats h)) (search)

pub returns-in-bounds-clause-err : goal.returns-in-bounds-clause-err
returns-in-bounds-clause-err c =
    fault_weaker _ _ _ (λ f h. named _ f _ _ c.in-bounds.is (of_bounds h)) (search)

pub returns-in_default-clause-err : goal.returns-in_default-clause-err
returns-in_default-clause-err c =
    unnamed _ _ _ c.in_default.not-relate c.in_default.not-join c.in_default.not-near
    c.in_default.not-nearest c.in_default.not-draw c.in_default.not-window
    c.in_default.not-stats c.in_default.not-bounds (search)
