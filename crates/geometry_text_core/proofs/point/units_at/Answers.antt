use Rattle.std.proofs.Common.{sym, ◌∙◌}
use Rattle.geometry_text_core.proofs.OnlyLemmas.{no_units, no_rounded_units}
use Rattle.geometry_text_core.proofs.point.units_at.Goals as goal

pub returns-in-Exact-clause-none : goal.returns-in-Exact-clause-none
returns-in-Exact-clause-none c =
    no_units c.args.scale c.digits-digits.result c.args.bits c.units.result c.ok.result c.digits-digits.ensures.digits (sym c.rounding.ensures ∙ c.in-Exact.is) c.units.ensures c.ok.ensures.value

pub returns-in-Nearest-clause-none : goal.returns-in-Nearest-clause-none
returns-in-Nearest-clause-none c =
    no_rounded_units c.args.scale c.digits-digits.result c.args.bits c.rounded_units.result c.ok-in-Nearest.result c.digits-digits.ensures.digits (sym c.rounding.ensures ∙ c.in-Nearest.is)
    c.rounded_units.ensures c.ok-in-Nearest.ensures.value
