use Rattle.std.proofs.Common.{subst}
use Rattle.std.specs.Prelude.{Option, IfSome}
use Rattle.arrangement_core.specs.declared.known.Seen.{Seen}
use Rattle.arrangement_core.specs.Seen.{IsSeenAlong}
use Rattle.arrangement_core.proofs.known.part_seen.Goals as goal

pub returns-in-Some : goal.returns-in-Some
returns-in-Some c = λ o e h. (subst (λ (s : Option Seen). IfSome s (IsSeenAlong o e)) c.in-Some.is h).lies
