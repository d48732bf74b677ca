use Rattle.std.proofs.Common.{false, sym, ◌∙◌, subst}
use Rattle.wkt_any_core.proofs.MemberLemmas.{ok_some, ok_none}
use Rattle.geometry_text_core.specs.Binary.{TakesHead}
use Rattle.geometry_text_core.specs.Positions.{TakesPosition}
use Rattle.geometry_text_core.proofs.OnlyLemmas.{one_heading, no_one, no_part, no_part_body}
use Rattle.geometry_text_core.proofs.parts.read_part.Goals as goal

pub returns-in_default-clause-none : goal.returns-in_default-clause-none
returns-in_default-clause-none c = λ lists rest (o, m, i, taken). let none = rw c.in_default.is at c.read_head.ensures.none in none (o, record { is_multi = false; keyword = c.args.keyword }) m i

pub returns-then-fits-clause-some : goal.returns-then-fits-clause-some
returns-then-fits-clause-some c =
    let same = one_heading c.in-Some.heading c.args.keyword (sym c.is_one-fits.ensures ∙ c.if-fits.true) in
    let head = subst (λ h. TakesHead c.args.bytes.now (c.in-Some.order, h) c.in-Some.rest.now) same c.in-Some.ensures.some in
    ok_some c.read_body.result c.read_body.ensures.some (λ rest (lists, taken, adds). (lists, (c.in-Some.order, c.in-Some.rest.now, head, taken), adds))

pub returns-then-fits-clause-none : goal.returns-then-fits-clause-none
returns-then-fits-clause-none c =
    ok_none c.read_body.result c.read_body.ensures.none
    (λ none. no_part_body (TakesPosition c.args.scale) c.args.bytes.now c.in-Some.rest.now c.in-Some.order c.in-Some.heading c.in-Some.ensures.some c.args.keyword none)

pub returns-else-fits-clause-none : goal.returns-else-fits-clause-none
returns-else-fits-clause-none c =
    no_part (TakesPosition c.args.scale) c.args.bytes.now c.in-Some.rest.now c.in-Some.order c.in-Some.heading c.in-Some.ensures.some c.args.keyword
    (no_one c.in-Some.heading c.args.keyword (sym c.is_one-fits.ensures ∙ c.if-fits.false))
