use Rattle.std.proofs.Common.{◌≡◌, filter, take}
use Rattle.pair_core.specs.Often.{is_met_often}
use Rattle.pair_core.proofs.often.met_often.Given as goal

abbrev pub invariant-loop-number : goal.invariant-loop-number
invariant-loop-number l = l.often.items ≡ filter (λ n. is_met_often l.fn.side n l.pairs) (take l.number-index l.numbers)
