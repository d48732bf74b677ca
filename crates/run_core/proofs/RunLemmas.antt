-- How a run ends that is a part of another one, or that doesn't start.
use Rattle.std.proofs.Common.{◌≡◌, ◌≢◌, ℕ, List, Option, Bool, true, false, Result, Ok, Err, OnOk, sym, refl, ◌∙◌}
use Rattle.run_core.specs.declared.fault.RunFault.{RunFault}
use Rattle.run_core.specs.declared.fault.RunFault.TheVariants as run
use Rattle.run_core.specs.Runs.{Ends, WritesAll, WritesPrefix}

-- a run of one kind of text is one of another that includes it
abbrev all_as : (P Q : List ℕ → Type 0) → ((text : List ℕ) → P text → Q text) → (old new : Option (List ℕ)) → WritesAll P old new → WritesAll Q old new
all_as P Q into old new h = (h.0, into h.0 h.1, h.2)

abbrev prefix_as : (P Q : List ℕ → Type 0) → ((text : List ℕ) → P text → Q text) → (old new : Option (List ℕ)) → WritesPrefix P old new → WritesPrefix Q old new
prefix_as P Q into old new h = (h.0, into h.0 h.1, h.2)

on_ok_as : {T : Type 0} (P Q : Type 0) (result : Result T RunFault) → (P → Q) → OnOk result P → OnOk result Q
on_ok_as P Q (Ok x) into h = into h
on_ok_as P Q (Err e) into h = h

pub ends_as : {T S : Type 0} (P Q : List ℕ → Type 0) (written : S → Option (List ℕ)) (is_flushed has_failed : S
    → Bool) (old new : S) (result : Result T RunFault)
    → ((text : List ℕ) → P text → Q text) → Ends P written is_flushed has_failed old new result → Ends Q written is_flushed has_failed old new result
ends_as P Q written is_flushed has_failed old new result into h = record {
  ok = on_ok_as (WritesAll P (written old) (written new)) (WritesAll Q (written old) (written new)) result (all_as P Q into (written old) (written new)) h.ok;
  flushed = h.flushed;
  failed = h.failed;
  partly = λ e. prefix_as P Q into (written old) (written new) (h.partly e);
  untouched = h.untouched;
}

-- nothing is written if a fault comes before the run
pub not_begun : {T S : Type 0} (P : List ℕ → Type 0) (written : S → Option (List ℕ)) (is_flushed has_failed : S
    → Bool) (sink : S) (result : Result T RunFault) (f : RunFault)
    → has_failed sink ≡ false → result ≡ Err f → f ≢ run.Write → Ends P written is_flushed has_failed sink sink result
not_begun P written is_flushed has_failed sink (Ok x) f fresh is other = absurd cc
not_begun P written is_flushed has_failed sink (Err e) f fresh is other = record {
  ok = tt;
  flushed = tt;
  failed = (
    (λ h. absurd (let same : e ≡ run.Write = cc in let bad : f ≡ run.Write = cc in
        other bad)),
    (λ h. absurd (let bad : true ≡ false = sym h ∙ fresh in cc)),
  );
  partly = λ h. absurd (let same : e ≡ run.Write = cc in let bad : f ≡ run.Write = cc in other bad);
  untouched = λ h. refl;
}
