use Rattle.std.proofs.Common.{◌∙◌, ◌+◌, ap, sym}
use Rattle.usage_core.specs.Usage.{has_auto}
use Rattle.usage_core.proofs.AutoLemmas.{auto_ends, auto_found, auto_later, auto_none, words_left}
use Rattle.usage_core.proofs.usage.workers.has_auto.Goals as goal

pub returns-then-eq : goal.returns-then-eq
returns-then-eq c =
    sym (auto_ends c.args.words.now c.loop-word.word-index _ c.loop-word.is_named c.loop-word-test.true (sym c.eq.ensures ∙ c.if-eq.true)) ∙ c.loop-word.invariant

pub returns-then-auto_follows : goal.returns-then-auto_follows
returns-then-auto_follows c =
    sym (auto_found c.args.words.now c.loop-word.word-index _ c.loop-word.is_named c.loop-word-test.true (sym c.eq.ensures ∙ c.if-eq.false)
    (sym c.auto_follows.ensures ∙ c.if-auto_follows.true)) ∙ c.loop-word.invariant

pub loop-word-preserved : goal.loop-word-preserved
loop-word-preserved c =
    ap (λ b. has_auto b (words_left c.args.words.now (c.loop-word.word-index + 1))) c.eq-is_named.ensures
    ∙ sym (auto_later c.args.words.now c.loop-word.word-index _ c.loop-word.is_named c.loop-word-test.true (sym c.eq.ensures ∙ c.if-eq.false)
    (sym c.auto_follows.ensures ∙ c.if-auto_follows.false)) ∙ c.loop-word.invariant

pub returns : goal.returns
returns c = sym (auto_none c.args.words.now _ c.loop-word.is_named c.loop-word-test.false) ∙ c.loop-word.invariant
