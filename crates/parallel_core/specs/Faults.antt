-- The faults of workers: their texts, and which come from a collector.
use Rattle.std.specs.Prelude.{ℕ, List, ◌++◌, codes, decimal}
use Rattle.deliver_core.specs.declared.faults.Finish.{Finish}
use Rattle.deliver_core.specs.declared.faults.Finish.TheVariants as finish
use Rattle.deliver_core.specs.declared.faults.Refusal.{Refusal}
use Rattle.deliver_core.specs.declared.faults.Refusal.TheVariants as refusal
use Rattle.parallel_core.specs.declared.fault.JoinFault.{JoinFault}
use Rattle.parallel_core.specs.declared.fault.JoinFault.TheVariants.{Memory, NoThread, Refused}
use Rattle.parallel_core.specs.declared.fault.JoinFault.TheVariants.{Open}

abbrev pub join_text : JoinFault → List ℕ
join_text Memory = codes "no memory"
join_text NoThread = codes "a worker could not be started"
join_text (Refused refusal) = codes "a message was refused"
join_text (Open task) = codes "task " ++ decimal task ++ codes " was not ended"

-- the fault for a refusal of the collector
abbrev pub fault_of : Refusal → JoinFault
fault_of refusal.Memory = Memory
fault_of refusal.Stranger = Refused refusal.Stranger
fault_of refusal.AfterEnd = Refused refusal.AfterEnd
fault_of refusal.Double = Refused refusal.Double
fault_of refusal.Gap = Refused refusal.Gap
fault_of refusal.WrongCount = Refused refusal.WrongCount

-- the fault for a collector that can't finish
abbrev pub open_fault : Finish → JoinFault
open_fault (finish.Open task) = Open task

-- lack of memory or of threads, for which only the machine is to blame
abbrev pub IsWant : JoinFault → Type 0
IsWant Memory = Unit {0}
IsWant NoThread = Unit {0}
IsWant (Refused refusal) = ⊥
IsWant (Open task) = ⊥
