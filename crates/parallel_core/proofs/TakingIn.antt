-- A collector that is offered one more message.
use Rattle.std.proofs.Common.{◌≡◌, ◌⊎◌, ℕ, inl, inr, Option, Some, None, Result, Ok, Err, is_ok, false, IfSome, IfNone, OnOk, OnErr, IsOkUnless, List, [], ◌∷◌}
use Rattle.std.proofs.Common.{◌++◌, refl, sym, ap, ◌∙◌, subst, append_assoc}
use Rattle.std.proofs.lemmas.List.Sums.{fold_push}
use Rattle.deliver_core.specs.declared.faults.Refusal.{Refusal}
use Rattle.deliver_core.specs.declared.faults.Refusal.TheVariants.{Memory}
use Rattle.deliver_core.specs.Collectors.{Collection, accept, collected, refusal_of}
use Rattle.deliver_core.specs.Scripts.{Content}
use Rattle.parallel_core.specs.FusedCollectors.{StopsAt, HasTakenIn}

pub push : (tasks : ℕ) (contents : List Content) (content : Content) → collected tasks (contents ++ content ∷ []) ≡ accept (collected tasks contents) content
push tasks contents content = fold_push accept (record { tasks = tasks; marks = []; pairs = [] }) contents content

-- after a refusal, whatever comes
pub still_stopped : (contents : List Content) (next : Content) (c : Collection) (refusal : Refusal) → StopsAt contents c refusal
    → StopsAt (contents ++ next ∷ []) c refusal
still_stopped contents next c refusal h = record {
  before = h.before;
  message = h.message;
  behind = h.behind ++ next ∷ [];
  parts = sym (append_assoc h.before (h.message ∷ h.behind) (next ∷ [])) ∙ ap (λ l. l ++ next ∷ []) h.parts;
  holds = h.holds;
  why = h.why;
}

why_refused : (refusal : Refusal) (result : Result (Unit {0}) Refusal) (found : Option Refusal) → result ≡ Err refusal → IfSome found (λ r. result ≡ Err r)
    → IfNone found (IsOkUnless result Memory) → (refusal ≡ Memory) ⊎ (found ≡ Some refusal)
why_refused refusal result (Some r) is some unless = inr (cc)
why_refused refusal (Ok unit) None is some unless = cc
why_refused refusal (Err other) None is some unless = inl (cc)

pub one_more : (contents : List Content) (next : Content) (c d : Collection) (result : Result (Unit {0}) Refusal) → c ≡ collected c.tasks contents
    → OnOk result (d ≡ accept c next) → OnErr result (d ≡ c)
    → IfSome (refusal_of c next) (λ refusal. result ≡ Err refusal) → IfNone (refusal_of c next) (IsOkUnless result Memory)
    → HasTakenIn (contents ++ next ∷ []) d result
one_more contents next c d (Ok unit) is all same some unless =
    let tasks : d.tasks ≡ c.tasks = ap (λ (e : Collection). e.tasks) all in
    all ∙ ap (λ e. accept e next) is ∙ sym (push c.tasks contents next) ∙ ap (λ n. collected n (contents ++ next ∷ [])) (sym tasks)
one_more contents next c d (Err refusal) is all same some unless =
    subst (λ (e : Collection). StopsAt (contents ++ next ∷ []) e refusal) (sym same) (record {
      before = contents;
      message = next;
      behind = [];
      parts = refl;
      holds = is;
      why = why_refused refusal (Err refusal) (refusal_of c next) refl some unless;
    })

pub not_ok : (contents : List Content) (next : Content) (c : Collection) (accepted : Result (Unit {0}) Refusal) → is_ok accepted ≡ false
    → HasTakenIn contents c accepted
    → HasTakenIn (contents ++ next ∷ []) c accepted
not_ok contents next c (Ok unit) is h = cc
not_ok contents next c (Err refusal) is h = still_stopped contents next c refusal h
