use Rattle.std.proofs.Common.{◌∙◌, sym, length}
use Rattle.plane_core.specs.Vertices.{paths_in}
use Rattle.wkt_any_core.proofs.PrinterLemmas.{one_text, many_text}
use Rattle.wkt_any_core.proofs.printer.push_lines.Goals as goal

pub returns-then-path_count-eq1 : goal.returns-then-path_count-eq1
returns-then-path_count-eq1 c =
    one_text c.push_one.result (length (paths_in c.args.geometry.now)) _ _ _ _ (sym c.path_count.ensures ∙ c.if-path_count-eq1.true) c.push_one.ensures

pub returns-else-path_count-eq1 : goal.returns-else-path_count-eq1
returns-else-path_count-eq1 c =
    many_text c.push_many.result (length (paths_in c.args.geometry.now)) _ _ _ _ (λ one. c.if-path_count-eq1.false (c.path_count.ensures ∙ one)) c.push_many.ensures
