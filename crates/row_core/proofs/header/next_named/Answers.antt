use Rattle.std.proofs.Common.{◌≤◌, ◌∙◌, ℕ, sym, arith}
use Rattle.std.proofs.lemmas.Bool.{false≢true}
use Rattle.csv.specs.Records.{fields_of}
use borrow.Author.Count.{below_more}
use Rattle.row_core.specs.Tables.{IsNamedAt}
use Rattle.row_core.proofs.header.next_named.Goals as goal

pub returns-then-is_named-clause-some : goal.returns-then-is_named-clause-some
returns-then-is_named-clause-some c = record {
  from = c.loop-place.auto.place;
  within = omega (arith, c.loop-place-test.true, c.len-place-end.ensures);
  named = c.is_named.ensures.0 c.if-is_named.true;
  none_before = λ other from before. c.loop-place.invariant other before from;
}

pub loop-place-preserved : goal.loop-place-preserved
loop-place-preserved c =
    below_more (λ (k : ℕ). c.args.start ≤ k → ¬ (IsNamedAt c.args.name.now (fields_of c.args.header.now) k)) c.loop-place.place c.loop-place.invariant
    (λ from named. false≢true (sym c.if-is_named.false ∙ c.is_named.ensures.1 named))

pub returns-clause-none : goal.returns-clause-none
returns-clause-none c = λ other from within.
    c.loop-place.invariant other (omega (arith, within, c.loop-place-test.false, c.len-place-end.ensures)) from
