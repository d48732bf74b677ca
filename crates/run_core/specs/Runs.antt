-- How a run that writes one text ends.
use Rattle.std.specs.Prelude.{◌≡◌, ◌≢◌, ◌↔◌, ℕ, List, Option, Bool, Result, Ok, Err, IsTrue, IfErr}
use Rattle.std.specs.Prelude.{OnOk, IsErrOf}
use Rattle.std.specs.Io.KnownBytes.{Appends}
use Rattle.row_core.specs.declared.read_fault.ReadFault.TheVariants.{Io}
use Rattle.wkt_core.specs.declared.fault.WktFault.{WktFault}
use Rattle.run_core.specs.declared.fault.Input.{Input}
use Rattle.run_core.specs.declared.fault.RunFault.{RunFault}
use Rattle.run_core.specs.declared.fault.RunFault.TheVariants.{Read, Wkt, Write}
use Rattle.run_core.specs.Inputs.{BlamesInput}
use Rattle.report_core.specs.Written.{AppendsPrefix}

-- known bytes grow by a text of this kind
abbrev pub WritesAll : (List ℕ → Type 0) → Option (List ℕ) → Option (List ℕ) → Type 0
WritesAll IsText old new = (text : List ℕ) × IsText text × Appends old new text

-- known bytes grow by a prefix of a text of this kind
abbrev pub WritesPrefix : (List ℕ → Type 0) → Option (List ℕ) → Option (List ℕ) → Type 0
WritesPrefix IsText old new = (text : List ℕ) × IsText text × AppendsPrefix old new text

-- if the run succeeds, a text of this kind was written and flushed; if the sink has failed, which
-- the fault reports, a prefix of one was written; after any other fault the sink is unchanged
pub record Ends {T S : Type 0} (IsText : List ℕ → Type 0)
    (written : S → Option (List ℕ)) (is_flushed has_failed : S → Bool)
    (old new : S) (result : Result T RunFault) : Type 0 where
  pub ok : OnOk result (WritesAll IsText (written old) (written new))
  pub flushed : OnOk result (IsTrue (is_flushed new))
  pub failed : IsErrOf result Write ↔ IsTrue (has_failed new)
  pub partly : IsErrOf result Write → WritesPrefix IsText (written old) (written new)
  pub untouched : IfErr result (λ f. f ≢ Write → new ≡ old)

-- how the run of a job with these results ends: what it writes; exactly the faults of geometries;
-- that a fault which blames an input is a result; no other faults; exactly which source has failed
pub record RunEnds {T S : Type 0} (Gives : Result (List ℕ) RunFault → Type 0)
    (HasTextFault : Input → WktFault → Type 0) (IsFault : RunFault → Type 0)
    (HasFailed : Input → Type 0)
    (written : S → Option (List ℕ)) (is_flushed has_failed : S → Bool)
    (old new : S) (result : Result T RunFault) : Type 0 where
  pub writes : Ends (λ text. Gives (Ok text)) written is_flushed has_failed old new result
  pub wkt : (i : Input) (f : WktFault) → (result ≡ Err (Wkt i f)) ↔ HasTextFault i f
  pub fault : IfErr result (λ f. BlamesInput f → Gives (Err f))
  pub faults : IfErr result (λ f. f ≢ Write → IsFault f)
  pub io : (i : Input) → IsErrOf result (Read i Io) ↔ HasFailed i

-- no geometry has a fault
abbrev pub NoTextFault : Input → WktFault → Type 0
NoTextFault input fault = ⊥
