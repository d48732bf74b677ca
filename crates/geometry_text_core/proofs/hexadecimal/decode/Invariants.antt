use Rattle.std.proofs.Common.{length}
use Rattle.wkt_core.specs.TokenSteps.{skip}
use Rattle.geometry_text_core.specs.Binary.{TakesEach}
use Rattle.geometry_text_core.specs.Hexadecimal.{TakesPair}
use Rattle.geometry_text_core.proofs.hexadecimal.decode.Given as goal

abbrev pub invariant-loop-byte : goal.invariant-loop-byte
invariant-loop-byte l = TakesEach TakesPair (skip l.fn.text) l.bytes.items l.rest

abbrev pub decreases-loop-byte : goal.decreases-loop-byte
decreases-loop-byte l = length l.rest
