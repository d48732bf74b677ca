-- Going down round by round: the facts known after each round, and at the end.
use Rattle.std.proofs.Common.{arith, ◌≡◌, ℕ, suc, ◌+◌, ◌<◌, ◌≤◌, List, [], length, sym, subst, add-one, inl, inr}
use Rattle.std.specs.Prelude.{All}
use Rattle.std.specs.List.{flat_map}
use Rattle.std.proofs.lemmas.Bool.{cases_eq}
use Rattle.std.proofs.lemmas.List.Elements.{All-weaker}
use Rattle.rtree_core.specs.declared.node.Node.{Node}
use Rattle.descent_core.specs.Lists.{IsKept}
use Rattle.descent_core.specs.Depths.{lower_pairs}
use Rattle.descent_core.specs.Plans.{most_tasks}
use Rattle.descent_core.specs.Plans.{CoversMeet, AreAt, AreFewAt, AreDeepest}
use Rattle.descent_core.specs.Steps.{AreMeeting, AreTaken, AreTooMany}
use Rattle.descent_core.proofs.KeptLemmas.{kept_hold, kept_too}
use Rattle.descent_core.proofs.DepthLemmas.{AreLawful, all_depth_lawful, at_next, at_start, at_kept}

pub all_lawful : (tasks : List (Node × Node)) → All AreMeeting tasks → All AreLawful tasks
all_lawful tasks h = All-weaker AreMeeting AreLawful (λ t m. (m.left, m.right)) tasks h

all_meeting : (tasks : List (Node × Node)) → All AreLawful tasks → All CoversMeet tasks → All AreMeeting tasks
all_meeting tasks lawful meet k d lt =
    let both = lawful k d lt in
    record { left = both.0; right = both.1; meet = meet k d lt }

-- the tasks after this number of rounds
pub record AreReached (above : List (Node × Node)) (d : ℕ) (tasks : List (Node × Node)) : Type 0 where
  pub lawful : All AreLawful above
  pub here : AreAt above d tasks
  pub few_here : length tasks ≤ most_tasks
  pub few : (e : ℕ) → e ≤ d → AreFewAt above e

pub meeting_here : (above : List (Node × Node)) (d : ℕ) (tasks : List (Node × Node)) → AreReached above d tasks → All AreMeeting tasks
meeting_here above d tasks h =
    all_meeting tasks (kept_too CoversMeet AreLawful h.here (all_depth_lawful d above h.lawful)) (kept_hold CoversMeet h.here)

pub reached_start : (above : List (Node × Node)) → All AreMeeting above → length above ≤ most_tasks → AreReached above 0 above
reached_start above meeting few =
    let here = at_start above (All-weaker AreMeeting CoversMeet (λ t m. m.meet) above meeting) in
    record {
      lawful = all_lawful above meeting;
      here = here;
      few_here = few;
      few = λ e le. subst (AreFewAt above) (let zero_is : 0 ≡ e = omega arith in zero_is) (above, here, few);
    }

few_upto : (above : List (Node × Node)) (d : ℕ) → ((e : ℕ) → e ≤ d → AreFewAt above e) → AreFewAt above (suc d) → (e : ℕ) → e ≤ suc d → AreFewAt above e
few_upto above d few last e le =
    elim (cases_eq e (suc d)) [
      | inl same ↦ subst (AreFewAt above) (sym same) last
      | inr differs ↦ few e (omega arith)
    ]

pub reached_next : (above : List (Node × Node)) (d : ℕ) (tasks next : List (Node × Node)) → AreReached above d tasks →
    AreTaken (flat_map lower_pairs tasks) [] next → AreReached above (d + 1) next
reached_next above d tasks next h taken =
    let same : taken.met ≡ next = sym taken.items in
    let here = at_next above d tasks next h.lawful h.here (subst (IsKept CoversMeet (flat_map lower_pairs tasks)) same taken.kept) in
    subst (λ k. AreReached above k next) (sym (add-one d)) (record {
      lawful = h.lawful;
      here = here;
      few_here = taken.few;
      few = few_upto above d h.few (next, here, taken.few);
    })

pub reached_full : (above : List (Node × Node)) (d cut : ℕ) (tasks : List (Node × Node)) → AreReached above d tasks → d < cut →
    AreTooMany (flat_map lower_pairs tasks) [] → AreDeepest above cut tasks
reached_full above d cut tasks h lt many = record {
  depth = d;
  in_cut = omega arith;
  tasks_are = h.here;
  few = h.few;
  greatest = λ _. (many.met, at_next above d tasks many.met h.lawful h.here many.kept, omega (arith, many.many));
}

pub reached_cut : (above : List (Node × Node)) (d cut : ℕ) (tasks : List (Node × Node)) → AreReached above d tasks → d ≡ cut → AreDeepest above cut tasks
reached_cut above d cut tasks h e = record {
  depth = d;
  in_cut = omega arith;
  tasks_are = h.here;
  few = h.few;
  greatest = λ lt. absurd (omega arith);
}

-- the same, if pairs that don't meet were left out at the top
pub deepest_kept : (above kept : List (Node × Node)) (cut : ℕ) (tasks : List (Node × Node)) → All AreLawful above → IsKept CoversMeet above kept →
    AreDeepest kept cut tasks → AreDeepest above cut tasks
deepest_kept above kept cut tasks lawful k h = record {
  depth = h.depth;
  in_cut = h.in_cut;
  tasks_are = at_kept above kept h.depth tasks lawful k h.tasks_are;
  few = λ d le. let f = h.few d le in (f.0, at_kept above kept d f.0 lawful k f.1, f.2);
  greatest = λ lt. let m = h.greatest lt in (m.0, at_kept above kept (suc h.depth) m.0 lawful k m.1, m.2);
}
