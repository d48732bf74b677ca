use Rattle.run_core.proofs.TextRunLemmas.{not_loaded, text_made}
use Rattle.join_core.proofs.run.join_text.Goals as goal

pub returns-in_err-loaded : goal.returns-in_err-loaded
returns-in_err-loaded g c = not_loaded _ _ _ _ _ c.from_residual.result _ c.from_residual.ensures.1 c.in_err-loaded.ensures

pub returns : goal.returns
returns g c = text_made _ _ _ _ _ _ c.product-text.result c.finish.result c.in_ok-loaded.ensures c.product-text.ensures c.finish.ensures
