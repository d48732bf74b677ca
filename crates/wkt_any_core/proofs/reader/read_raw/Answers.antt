use Rattle.std.proofs.Common.{◌≡◌, ◌<◌, ℕ, List, [], ◌∷◌, length, refl, sym, ◌∙◌, ap, arith}
use Rattle.wkt_core.specs.Spelling.{HasGoodNumbers, position}
use Rattle.wkt_core.specs.TokenSteps.{skip}
use Rattle.wkt_any_core.specs.Steps.{TakesText}
use Rattle.wkt_any_core.proofs.AnswerLemmas.{says_taken, read_text}
use Rattle.wkt_any_core.proofs.PathLemmas.{none_read}
use Rattle.wkt_any_core.proofs.TextLemmas.{read_on, body_same}
use Rattle.wkt_any_core.proofs.reader.read_raw.Goals as goal

pub returns-in_default-clause-none : goal.returns-in_default-clause-none
returns-in_default-clause-none c = λ keyword places. says_taken c.args.scale c.args.text.now keyword places
    (λ heading lists h. let none = rw (c.in_default.is, c.skip_blanks-start.ensures) at c.read.ensures.none in none heading h.0 h.2)

pub returns-in_default-2-clause-none : goal.returns-in_default-2-clause-none
returns-in_default-2-clause-none c = λ keyword places. says_taken c.args.scale c.args.text.now keyword places (λ heading lists h.
    let word = rw c.skip_blanks-start.ensures at c.in-Some.ensures.some in
    let body = rw (c.in_default-2.is, c.skip_blanks-body.ensures) at c.in_ok-rest.ensures.none in
    let (same, (e, b, p)) = read_on c.args.scale c.args.text.now c.in-Some.heading c.in-Some.rest.now word heading lists h in
    body lists e b)

nothing : (text : List ℕ) → length text < 1 → text ≡ []
nothing [] h = refl
nothing (b ∷ text) h = absurd (omega (arith, h))

pub returns-in-empty-clause-some : goal.returns-in-empty-clause-some
returns-in-empty-clause-some c =
    let word = rw c.skip_blanks-start.ensures at c.in-Some.ensures.some in
    let (lists, body, adds) = rw (c.in-Some-2.is, c.skip_blanks-body.ensures) at c.in_ok-rest.ensures.some in
    let end = sym c.skip_blanks-end.ensures ∙ nothing c.skip_blanks-end.result.now c.in-empty.len_below in
    let taken : TakesText c.args.scale c.args.text.now c.in-Some.heading lists = (c.in-Some.rest.now, c.in-Some-2.rest.now, word, body, end) in
    let read = adds _ [] (none_read (HasGoodNumbers c.args.scale) (position c.args.scale) _ _ c.new-paths.ensures) in
    let (places, says, at) = read_text c.args.scale c.args.text.now c.args.rings c.in-Some.heading lists _ taken read in
    record { places = places; says = says; at = at }

pub returns-in_default-end-clause-none : goal.returns-in_default-end-clause-none
returns-in_default-end-clause-none c = λ keyword places. says_taken c.args.scale c.args.text.now keyword places (λ heading lists h.
    let word = rw c.skip_blanks-start.ensures at c.in-Some.ensures.some in
    let (found, body, adds) = rw (c.in-Some-2.is, c.skip_blanks-body.ensures) at c.in_ok-rest.ensures.some in
    let (same, (e, b, p)) = read_on c.args.scale c.args.text.now c.in-Some.heading c.in-Some.rest.now word heading lists h in
    let end = (body_same c.args.scale c.in-Some.heading (skip c.in-Some.rest.now) found lists c.in-Some-2.rest.now e body b).1 in
    let empty = c.skip_blanks-end.ensures ∙ ap skip end ∙ p in
    omega (arith, c.in_default-end.len_at_least, ap length empty))
