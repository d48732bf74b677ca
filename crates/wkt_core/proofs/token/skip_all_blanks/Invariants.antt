use Rattle.std.proofs.Common.{◌≡◌, length}
use Rattle.wkt_core.specs.TokenSteps.{skip}
use Rattle.wkt_core.proofs.token.skip_all_blanks.Given as goal

abbrev pub invariant-loop-text : goal.invariant-loop-text
invariant-loop-text l = skip l.text ≡ skip l.fn.text

abbrev pub decreases-loop-text : goal.decreases-loop-text
decreases-loop-text l = length l.text
