use Rattle.layer_run_core.proofs.WindowRunLemmas.{not_looked_up, window_looked_up}
use Rattle.layer_run_core.proofs.window.run_window.Goals as goal

pub returns-in-Ok : goal.returns-in-Ok
returns-in-Ok g c = window_looked_up _ _ _ _ _ _ _ _ _ _ _ _ c.in-Ok.ensures.reads c.in-Ok.ensures.only (search)

pub returns-in-Err : goal.returns-in-Err
returns-in-Err g c = not_looked_up _ _ _ _ _ _ _ _ _ _ c.in-Err.ensures.reads c.in-Err.ensures.only c.requires.layer c.requires.sink
