use Rattle.std.proofs.Common.{◌∙◌, ap, sym, refl, arith, rules}
use Rattle.std.proofs.lemmas.Bool.{false≢true}
use Rattle.csv.specs.Records.{fields_of}
use Rattle.csv.proofs.RecordFacts.{field-there}
use borrow.Author.Count.{below_more}
use Rattle.row_core.proofs.HeaderLemmas.{AgreesAt, agrees, agrees-inverse, header-agrees, nothing, small}
use Rattle.row_core.proofs.header.is_header.Goals as goal

pub returns-in_default : goal.returns-in_default
returns-in_default c =
    let fields = fields_of c.args.row.now in (
      λ no. absurd (false≢true no),
      λ _. absurd (field-there fields c.loop-i.i (omega arith) (sym c.in_default.ensures.value)),
    )

pub returns-then-not-same : goal.returns-then-not-same
returns-then-not-same c =
    let same = agrees-inverse
    (fields_of c.args.row.now) c.args.columns.now c.loop-i.i nothing c.in-Some.field.now c.loop-i-test.true c.in-Some.ensures.value in (
      λ no. absurd (false≢true no),
      λ header.
          absurd
          (false≢true (sym c.if-not-same.true ∙ c.eq_ignore_ascii_case-same.ensures.test.1 (same header ∙ ap small (sym c.as_bytes-name.ensures.value)))),
    )

pub loop-i-preserved : goal.loop-i-preserved
loop-i-preserved c =
    let fields = fields_of c.args.row.now in
    let columns = c.args.columns.now in
    let same = c.eq_ignore_ascii_case-same.ensures.test.0 c.if-not-same.false ∙ ap small c.as_bytes-name.ensures.value in
    below_more (AgreesAt fields columns) c.loop-i.i c.loop-i.invariant
    (agrees fields columns c.loop-i.i nothing c.in-Some.field.now c.loop-i-test.true c.in-Some.ensures.value same)

pub returns : goal.returns
returns c = (
  λ _.
      header-agrees (fields_of c.args.row.now) c.args.columns.now (search rules)
      (λ k h. c.loop-i.invariant k (omega arith)),
  λ _. refl,
)
