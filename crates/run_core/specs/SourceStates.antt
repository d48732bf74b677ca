-- Which sources of a join have failed.
use Rattle.std.specs.Prelude.{◌≡◌, Bool, false, IfSome, IsTrue, IsSomeAnd}
use Rattle.run_core.specs.declared.fault.Input.{Input}
use Rattle.run_core.specs.declared.fault.Input.TheVariants.{Left, Right, Edits}
use Rattle.run_core.specs.declared.sources.JoinSources.{JoinSources}

-- none of them has failed
pub record AreFresh {A B E : Type 0} (left_failed : A → Bool) (right_failed : B → Bool)
    (edits_failed : E → Bool) (sources : JoinSources A B E) : Type 0 where
  pub left : left_failed sources.left ≡ false
  pub right : right_failed sources.right ≡ false
  pub edits : IfSome sources.edits (λ e. edits_failed e ≡ false)

-- the source of this input has failed, given whether each of the three has
abbrev pub FailedAt : Type 0 → Type 0 → Type 0 → Input → Type 0
FailedAt LeftFailed RightFailed EditsFailed Left = LeftFailed
FailedAt LeftFailed RightFailed EditsFailed Right = RightFailed
FailedAt LeftFailed RightFailed EditsFailed Edits = EditsFailed
FailedAt LeftFailed RightFailed EditsFailed _ = ⊥

-- the source of this input has failed
abbrev pub HasFailed : {A B E : Type 0} → (A → Bool) → (B → Bool) → (E → Bool)
    → JoinSources A B E → Input → Type 0
HasFailed left_failed right_failed edits_failed sources =
    FailedAt (IsTrue (left_failed sources.left)) (IsTrue (right_failed sources.right))
    (IsSomeAnd sources.edits (λ e. IsTrue (edits_failed e)))
