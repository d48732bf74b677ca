use Rattle.layer_run_core.proofs.AnyWindowLemmas.{not_looked_up, window_looked_up}
use Rattle.layer_run_core.proofs.any_window.run_any_window.Goals as goal

pub returns-in-Ok-new-clause-runs : goal.returns-in-Ok-new-clause-runs
returns-in-Ok-new-clause-runs g c = window_looked_up _ _ _ _ _ _ _ _ _ _ _ _ c.in-Ok-new.ensures c.in-Ok.ensures.ok c.run_marking.ensures.runs

pub returns-in-Ok-clause-runs : goal.returns-in-Ok-clause-runs
returns-in-Ok-clause-runs g c = not_looked_up _ _ _ _ _ _ _ _ _ tt c.requires.layer c.requires.sink

pub returns-clause-runs : goal.returns-clause-runs
returns-clause-runs g c = not_looked_up _ _ _ _ _ _ _ _ _ c.in-Err.ensures.err c.requires.layer c.requires.sink
