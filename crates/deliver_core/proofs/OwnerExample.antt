-- Two ports and three tasks, the rows of which are empty: port 0 owns the tasks 2 and 0, port 1 owns task 1, and their messages interleave.
use Rattle.std.proofs.Common.{◌≡◌, ℕ, zero, suc, ◌<◌, Some, true, List, [], ◌∷◌, slice_get, refl, subst, arith}
use Rattle.std.proofs.lemmas.Bool.Decides.{nat_tests}
use Rattle.std.proofs.lemmas.List.Elements.{All-from_recursion}
use Rattle.std.proofs.lemmas.Option.{same_Some, none-some}
use Rattle.deliver_core.specs.declared.message.Body.TheVariants.{End, Bye}
use Rattle.deliver_core.specs.declared.message.Message.{Message}
use Rattle.deliver_core.specs.declared.faults.Refusal.TheVariants.{Stranger, AfterEnd, Gap, WrongCount}
use Rattle.deliver_core.specs.Collectors.{collected, refusal_of}
use Rattle.deliver_core.specs.Draws.{times, once_below}
use Rattle.deliver_core.specs.Owners.{Owners, KeepsOwners, IsComplete, IsWhole, owned_numbers, part_of}
use Rattle.deliver_core.specs.Scripts.{Task, batch_of, end_of}
use Rattle.deliver_core.proofs.TaskParts.{IsPart-whole}

abbrev end_from : ℕ → ℕ → Message
end_from port task = record { port = port; task = task; body = End 0 }

abbrev bye_from : ℕ → Message
bye_from port = record { port = port; task = 0; body = Bye true }

abbrev example : Owners
example = record {
  tasks = 3;
  size = 7;
  owned = ((2, []) ∷ (0, []) ∷ []) ∷ ((1, []) ∷ []) ∷ [];
  messages = end_from 0 2 ∷ end_from 1 1 ∷ end_from 0 0 ∷ bye_from 1 ∷ bye_from 0 ∷ [];
}

numbers : (x : ℕ) → times x (owned_numbers example) ≡ once_below 3 x
numbers x = grind (arith, nat_tests)

wholes : (port : ℕ) (tasks : List Task) → slice_get example.owned port ≡ Some tasks → IsWhole 7 tasks (part_of example port)
wholes zero tasks at = subst (λ ts. IsWhole 7 ts (part_of example 0)) (same_Some _ tasks at) (record { last = Some true; said_is = refl })
wholes (suc zero) tasks at = subst (λ ts. IsWhole 7 ts (part_of example 1)) (same_Some _ tasks at) (record { last = Some true; said_is = refl })
wholes (suc (suc port)) tasks at = absurd (none-some tasks at)

complete : IsComplete example
complete = record { all = numbers; parts = wholes }

keeps : KeepsOwners example
keeps = record {
  once = λ x. omega (arith, numbers x);
  known = All-from_recursion (λ (m : Message). m.port < 2) example.messages (omega arith, (omega arith, (omega arith, (omega arith, (omega arith, tt)))));
  parts = λ port tasks at. IsPart-whole 7 tasks (part_of example port) (wholes port tasks at);
}

-- What the law's premises keep out: a task's end twice, as two owners or an owner after its bye would send it, a task that
-- isn't one, an end that comes first, and a batch that nobody's script begins with
twice : refusal_of (collected 1 (end_of 0 0 ∷ [])) (end_of 0 0) ≡ Some AfterEnd
twice = refl

no_task : refusal_of (collected 0 []) (end_of 0 0) ≡ Some Stranger
no_task = refl

end_first : refusal_of (collected 1 []) (end_of 0 1) ≡ Some WrongCount
end_first = refl

batch_first : refusal_of (collected 1 []) (batch_of 0 1 []) ≡ Some Gap
batch_first = refl
