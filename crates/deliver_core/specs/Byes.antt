-- Which messages are Byes, and which lists of messages end at one.
use Rattle.std.specs.Prelude.{◌≡◌, Bool, true, false, List, [], ◌++◌}
use Rattle.std.specs.List.{list_any}
use Rattle.deliver_core.specs.declared.message.Body.{Body}
use Rattle.deliver_core.specs.declared.message.Body.TheVariants.{Batch, End, Bye}
use Rattle.deliver_core.specs.declared.message.Message.{Message}

abbrev pub is_bye_body : Body → Bool
is_bye_body (Batch number pairs) = false
is_bye_body (End count) = false
is_bye_body (Bye ok) = true

-- whether a message is a Bye
abbrev pub is_bye : Message → Bool
is_bye m = is_bye_body m.body

-- whether one of the messages is a Bye
abbrev pub has_bye : List Message → Bool
has_bye ms = list_any is_bye ms

-- nothing follows a Bye
abbrev pub EndsAtBye : List Message → Type 0
EndsAtBye ms = (front rest : List Message) → front ++ rest ≡ ms → has_bye front ≡ true → rest ≡ []
