use Rattle.std.proofs.Common.{◌≡◌, length}
use Rattle.number_core.specs.NumberSteps.{after_digits}
use Rattle.geometry_text_core.proofs.srid.skip_digits.Given as goal

abbrev pub invariant-loop-text : goal.invariant-loop-text
invariant-loop-text l = after_digits l.text ≡ after_digits l.fn.text

abbrev pub decreases-loop-text : goal.decreases-loop-text
decreases-loop-text l = length l.text
