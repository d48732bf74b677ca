use Rattle.wkt_any_core.proofs.PathLemmas.{on_ok}
use Rattle.geometry_text_core.proofs.HeldLemmas.{closed_points}
use Rattle.geometry_text_core.proofs.parts.close.Goals as goal

pub returns-in-Point : goal.returns-in-Point
returns-in-Point c = rw c.in-Point.is (on_ok c.end_path.result c.end_path.ensures (λ e. closed_points _ _ e))
