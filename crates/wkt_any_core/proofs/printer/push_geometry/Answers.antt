use Rattle.std.proofs.Common.{◌≡◌, ◌∙◌, ◌++◌, List, ℕ, sym, subst}
use Rattle.std.specs.Prelude.{OnOk}
use Rattle.std.specs.String.{string_bytes}
use Rattle.wkt_any_core.proofs.PrinterLemmas.{points_canonical}
use Rattle.wkt_any_core.proofs.printer.push_geometry.Goals as goal

pub returns-in-0 : goal.returns-in-0
returns-in-0 c =
    subst (λ (t : List ℕ). OnOk c.push_any_points.result (string_bytes c.push_any_points.new.text ≡ string_bytes c.args.text.now ++ t))
    (points_canonical c.args.scale c.args.geometry.now c.path.result.now (sym c.dim.ensures ∙ c.in-0.is) c.path.ensures)
    c.push_any_points.ensures
