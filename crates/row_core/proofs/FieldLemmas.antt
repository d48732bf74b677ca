-- The field at a place of a record, and a record of four fields from its length and each field.
use Rattle.std.proofs.Common.{◌≡◌, ◌<◌, ◌≢◌, ℕ, zero, suc, List, [], ◌∷◌, length, get_or, Some, None, refl, sym, arith}
use Rattle.csv.specs.Records.{field_at}
use Rattle.csv.proofs.RecordFacts.{field-there}
use Rattle.row_core.specs.Records.{Record}

pub field_missing : (fields : Record) (i n : ℕ) → None ≡ field_at fields i → i < n → length fields ≢ n
field_missing fields i n none within e = field-there fields i (omega arith) (sym none)

same-some : {X : Type 0} (a b : X) → Some a ≡ Some b → b ≡ a
same-some a b e = cc

pub four_fields : (fields : Record) (a b c d : List ℕ) → length fields ≡ 4 → Some a ≡ field_at fields 0 → Some b ≡ field_at fields 1
    → Some c ≡ field_at fields 2 → Some d ≡ field_at fields 3 → fields ≡ a ∷ b ∷ c ∷ d ∷ []
unfolding field_at
four_fields [] a b c d n p q r s = absurd (omega arith)
four_fields (x ∷ []) a b c d n p q r s = absurd (omega arith)
four_fields (x ∷ y ∷ []) a b c d n p q r s = absurd (omega arith)
four_fields (x ∷ y ∷ z ∷ []) a b c d n p q r s = absurd (omega arith)
four_fields (x ∷ y ∷ z ∷ w ∷ []) a b c d n p q r s = (λ i. same-some a x p i ∷ same-some b y q i ∷ same-some c z r i ∷ same-some d w s i ∷ [])
four_fields (x ∷ y ∷ z ∷ w ∷ v ∷ vs) a b c d n p q r s = absurd (omega arith)

-- the field at a place
pub field_there : (fields : Record) (i : ℕ) (field : List ℕ) → Some field ≡ field_at fields i → field ≡ get_or fields i []
unfolding field_at
field_there [] i field e = cc
field_there (f ∷ fs) zero field e = cc
field_there (f ∷ fs) (suc i) field e = field_there fs i field e

-- no field at a place
pub field_beyond : (fields : Record) (i : ℕ) → None ≡ field_at fields i → get_or fields i [] ≡ []
unfolding field_at
field_beyond [] i e = refl
field_beyond (f ∷ fs) zero e = cc
field_beyond (f ∷ fs) (suc i) e = field_beyond fs i e

pub ruleset at_place = (field_there, field_beyond)

pub ruleset of_four = (field_missing, four_fields)
