use Rattle.std.proofs.Common.{sym, ◌∙◌, ap}
use Rattle.wkt_core.specs.TokenSteps.{symbol_at}
use Rattle.geometry_text_core.proofs.EachLemmas.{when_none}
use Rattle.geometry_text_core.proofs.TextLemmas.{no_digit, no_semicolon}
use Rattle.geometry_text_core.proofs.srid.skip_srid.Goals as goal

pub returns-in_err-number-clause-none : goal.returns-in_err-number-clause-none
returns-in_err-number-clause-none c =
    when_none c.from_residual.result (λ rest (m, u, letters, digit, end). let none = rw c.skip_blanks-start.ensures at c.in_err-number.ensures.none in none m letters)

pub returns-in_err-rest-clause-none : goal.returns-in_err-rest-clause-none
returns-in_err-rest-clause-none c =
    when_none c.from_residual-in_err-rest.result
    (no_digit c.args.text.now c.in_ok-number.number.now (rw c.skip_blanks-start.ensures at c.in_ok-number.ensures.some) (sym c.in_err-rest.ensures))

pub returns-clause-none : goal.returns-clause-none
returns-clause-none c =
    no_semicolon c.args.text.now c.in_ok-number.number.now c.in_ok-rest.rest.now c.skip_symbol.result (rw c.skip_blanks-start.ensures at c.in_ok-number.ensures.some)
    (sym c.in_ok-rest.ensures) (c.skip_symbol.ensures ∙ ap (symbol_at 59) c.skip_digits-end.ensures)
