use Rattle.std.proofs.Common.{◌≡◌, false}
use Rattle.usage_core.specs.Usage.{has_auto}
use Rattle.usage_core.proofs.AutoLemmas.{words_left}
use Rattle.usage_core.proofs.usage.workers.has_auto.Given as goal

-- the words that are left answer as all words do
abbrev pub invariant-loop-word : goal.invariant-loop-word
invariant-loop-word l = has_auto l.is_named (words_left l.words l.word-index) ≡ has_auto false (words_left l.fn.words 0)
