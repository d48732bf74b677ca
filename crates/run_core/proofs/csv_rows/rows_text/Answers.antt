use Rattle.run_core.proofs.CsvLemmas.{text_kept}
use Rattle.run_core.proofs.csv_rows.rows_text.Goals as goal

pub returns-in-Ok : goal.returns-in-Ok
returns-in-Ok c = λ rows had. text_kept _ c.in-Ok.text rows c.in-Ok.ensures.ok had
