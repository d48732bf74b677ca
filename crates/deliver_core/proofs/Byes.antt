-- A Bye is the last message of its port.
use Rattle.std.proofs.Common.{◌≡◌, ◌||◌, Bool, true, false, List, [], ◌∷◌, ◌++◌, refl, ap, ◌∙◌}
use Rattle.std.proofs.lemmas.List.Folds.{list_any-append}
use Rattle.deliver_core.specs.declared.message.Message.{Message}
use Rattle.deliver_core.specs.Byes.{is_bye, has_bye, EndsAtBye}

or_false : (b : Bool) → (false || (b || false)) ≡ b
or_false true = refl
or_false false = refl

-- if the first parts are equal, the rests differ
rest_of_or : (a b c d : Bool) → a ≡ c → (a || b) ≡ true → (c || d) ≡ false → (b ≡ true) × (d ≡ false)
rest_of_or false b false d same some none = (some, none)
rest_of_or false b true d same some none = cc
rest_of_or true b false d same some none = cc
rest_of_or true b true d same some none = cc

-- if a list has no Bye, only the message after it can be one
split_snoc : (sent front rest : List Message) (m : Message) → front ++ rest ≡ sent ++ m ∷ [] → has_bye front ≡ true → has_bye sent ≡ false → rest ≡ []
split_snoc sent [] rest m e bye quiet = cc
split_snoc [] (f ∷ []) rest m e bye quiet = cc
split_snoc [] (f ∷ (g ∷ fs)) rest m e bye quiet = cc
split_snoc (s ∷ ss) (f ∷ fs) rest m e bye quiet =
    let same : f ≡ s = cc in
    let parts = rest_of_or (is_bye f) (has_bye fs) (is_bye s) (has_bye ss) (ap is_bye same) bye quiet in
    split_snoc ss fs rest m (cc) parts.0 parts.1

pub ends-none : EndsAtBye []
ends-none [] rest e bye = e
ends-none (f ∷ fs) rest e bye = cc

pub ends-snoc : (sent : List Message) (m : Message) → has_bye sent ≡ false → EndsAtBye (sent ++ m ∷ [])
ends-snoc sent m quiet front rest e bye = split_snoc sent front rest m e bye quiet

-- whether a longer list has a Bye
pub has_bye-snoc : (sent : List Message) (m : Message) → has_bye sent ≡ false → has_bye (sent ++ m ∷ []) ≡ is_bye m
has_bye-snoc sent m quiet = list_any-append is_bye sent (m ∷ []) ∙ (rw quiet (or_false (is_bye m)))
