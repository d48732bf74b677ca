use Rattle.std.proofs.Common.{◌≡◌, ◌<◌, ℕ, List, [], ◌∷◌, length, refl, sym, ◌∙◌, ap, arith}
use Rattle.wkt_core.specs.declared.keyword.Keyword.{Keyword}
use Rattle.wkt_core.specs.Grammar.{RawPoint}
use Rattle.wkt_core.specs.TokenSteps.{skip}
use Rattle.wkt_core.specs.ListSteps.{TakesText}
use Rattle.wkt_core.proofs.PointLemmas.{if_none}
use Rattle.wkt_core.proofs.TextLemmas.{read_on, body_same}
use Rattle.wkt_core.proofs.raw.RawText.read.Goals as goal

pub returns-in_err-keyword-clause-none : goal.returns-in_err-keyword-clause-none
returns-in_err-keyword-clause-none c =
    let word = rw c.skip_blanks-start.ensures at c.in_err-keyword.ensures.none in
    let none : (keyword : Keyword) (lists : List (List RawPoint)) → TakesText c.args.scale c.args.text.now keyword lists
    → ⊥ = λ keyword lists (m, e, h, b, p). word keyword m h in
    if_none _ none

pub returns-in_err-rest-clause-none : goal.returns-in_err-rest-clause-none
returns-in_err-rest-clause-none c =
    let word = rw c.skip_blanks-start.ensures at c.in_ok-keyword.ensures.some in
    let body = rw c.skip_blanks-body.ensures at c.in_err-rest.ensures.none in
    let none : (keyword : Keyword) (lists : List (List RawPoint)) → TakesText c.args.scale c.args.text.now keyword lists → ⊥ = λ keyword lists h.
    let (same, (e, b, p)) = read_on c.args.scale c.args.text.now c.in_ok-keyword.keyword c.in_ok-keyword.rest.now word keyword lists h in
    body lists e b in
    if_none _ none

nothing : (text : List ℕ) → length text < 1 → text ≡ []
nothing [] h = refl
nothing (b ∷ text) h = absurd (omega (arith, h))

pub read_body-requires : goal.read_body-requires
read_body-requires c = c.new-lists.ensures c.args.scale

pub returns-in-empty-clause-some : goal.returns-in-empty-clause-some
returns-in-empty-clause-some c =
    let word = rw c.skip_blanks-start.ensures at c.in_ok-keyword.ensures.some in
    let (found, body, firsts) = rw c.skip_blanks-body.ensures at c.in_ok-rest.ensures.some in
    let end = sym c.skip_blanks-end.ensures ∙ nothing c.skip_blanks-end.result.now c.in-empty.len_below in
    (found, (c.in_ok-keyword.rest.now, c.in_ok-rest.rest.now, word, body, end), firsts)

pub returns-in_default-clause-none : goal.returns-in_default-clause-none
returns-in_default-clause-none c = λ keyword lists h.
    let word = rw c.skip_blanks-start.ensures at c.in_ok-keyword.ensures.some in
    let (found, body, firsts) = rw c.skip_blanks-body.ensures at c.in_ok-rest.ensures.some in
    let (same, (e, b, p)) = read_on c.args.scale c.args.text.now c.in_ok-keyword.keyword c.in_ok-keyword.rest.now word keyword lists h in
    let end = (body_same c.args.scale c.in_ok-keyword.keyword (skip c.in_ok-keyword.rest.now) found lists c.in_ok-rest.rest.now e body b).1 in
    let empty = c.skip_blanks-end.ensures ∙ ap skip end ∙ p in
    omega (arith, c.in_default.len_at_least, ap length empty)
