-- The messages that a collector has accepted, up to the first that it refused.
use Rattle.std.specs.Prelude.{◌≡◌, ◌⊎◌, List, ◌∷◌, ◌++◌, Some, Result, Ok, Err}
use Rattle.deliver_core.specs.declared.faults.Refusal.{Refusal}
use Rattle.deliver_core.specs.declared.faults.Refusal.TheVariants.{Memory}
use Rattle.deliver_core.specs.Collectors.{Collection, collected, refusal_of}
use Rattle.deliver_core.specs.Scripts.{Content}

-- the collector holds the messages before one that it refused, by its rule or for lack of memory
pub record StopsAt (contents : List Content) (c : Collection) (refusal : Refusal) : Type 0 where
  pub before : List Content
  pub message : Content
  pub behind : List Content
  pub parts : before ++ message ∷ behind ≡ contents
  pub holds : c ≡ collected c.tasks before
  pub why : (refusal ≡ Memory) ⊎ (refusal_of c message ≡ Some refusal)

-- the collector holds all of these messages, or those before the first that it refused
abbrev pub HasTakenIn : List Content → Collection → Result (Unit {0}) Refusal → Type 0
HasTakenIn contents c (Ok unit) = c ≡ collected c.tasks contents
HasTakenIn contents c (Err refusal) = StopsAt contents c refusal
