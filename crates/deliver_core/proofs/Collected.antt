-- what a collector holds after a list of messages, and that it refuses none that keep its history legal
use Rattle.std.proofs.Common.{◌≡◌, ℕ, ◌<◌, eqb, List, [], ◌∷◌, ◌++◌, fold, sym, ap, ◌∙◌, append_assoc}
use Rattle.std.specs.List.{flat_map}
use Rattle.std.proofs.lemmas.Grind.{flat_map-append}
use Rattle.std.proofs.lemmas.List.{append-nil}
use Rattle.std.proofs.lemmas.List.Sums.{fold_push}
use mathlib.Core.List.{IsPrefix}
use Rattle.deliver_core.specs.declared.mark.Mark.{Mark}
use Rattle.deliver_core.specs.Collectors.{Collection, accept, collected, refusal_of, RefusesNone}
use Rattle.deliver_core.specs.Marks.{task_of, IsLegalHistory}
use Rattle.deliver_core.specs.Scripts.{Content, marks_in, pairs_in}
use Rattle.deliver_core.proofs.Prefixes.{prefix_trans, prefix_filter, All-prefix}
use Rattle.deliver_core.proofs.Refusals.{refuses_illegal}

-- a collection, and then these messages
fold_accept : (c : Collection) (contents : List Content)
    → fold accept c contents ≡ record { tasks = c.tasks; marks = c.marks ++ flat_map marks_in contents; pairs = c.pairs ++ flat_map pairs_in contents }
fold_accept c [] =
    let marks : c.marks ≡ c.marks ++ [] = sym (append-nil c.marks) in
    let pairs : c.pairs ≡ c.pairs ++ [] = sym (append-nil c.pairs) in
    ap (λ (m : List Mark). record { tasks = c.tasks; marks = m; pairs = c.pairs }) marks
    ∙ ap (λ (p : List (ℕ × ℕ)). record { tasks = c.tasks; marks = c.marks ++ []; pairs = p }) pairs
fold_accept c (content ∷ contents) =
    let marks : (c.marks ++ marks_in content) ++ flat_map marks_in contents ≡ c.marks ++ flat_map marks_in (content ∷ contents) =
    append_assoc c.marks (marks_in content) (flat_map marks_in contents) in
    let pairs : (c.pairs ++ pairs_in content) ++ flat_map pairs_in contents ≡ c.pairs ++ flat_map pairs_in (content ∷ contents) =
    append_assoc c.pairs (pairs_in content) (flat_map pairs_in contents) in
    fold_accept (accept c content) contents
    ∙ ap (λ (m : List Mark). record { tasks = c.tasks; marks = m; pairs = (c.pairs ++ pairs_in content) ++ flat_map pairs_in contents }) marks
    ∙ ap (λ (p : List (ℕ × ℕ)). record { tasks = c.tasks; marks = c.marks ++ flat_map marks_in (content ∷ contents); pairs = p }) pairs

pub collected_is : (tasks : ℕ) (contents : List Content)
    → collected tasks contents ≡ record { tasks = tasks; marks = flat_map marks_in contents; pairs = flat_map pairs_in contents }
collected_is tasks contents = fold_accept (record { tasks = tasks; marks = []; pairs = [] }) contents

pub collected_tasks : (tasks : ℕ) (contents : List Content) → (collected tasks contents).tasks ≡ tasks
collected_tasks tasks contents = ap (λ c. c.tasks) (collected_is tasks contents)

pub collected_marks : (tasks : ℕ) (contents : List Content) → (collected tasks contents).marks ≡ flat_map marks_in contents
collected_marks tasks contents = ap (λ c. c.marks) (collected_is tasks contents)

pub collected_pairs : (tasks : ℕ) (contents : List Content) → (collected tasks contents).pairs ≡ flat_map pairs_in contents
collected_pairs tasks contents = ap (λ c. c.pairs) (collected_is tasks contents)

-- one more message is accepted
pub collected_push : (tasks : ℕ) (contents : List Content) (content : Content)
    → collected tasks (contents ++ content ∷ []) ≡ accept (collected tasks contents) content
collected_push tasks contents content = fold_push accept (record { tasks = tasks; marks = []; pairs = [] }) contents content

-- a beginning of a legal history is one
IsLegalHistory-prefix : (tasks : ℕ) (front marks : List Mark) → IsPrefix front marks → IsLegalHistory tasks marks → IsLegalHistory tasks front
IsLegalHistory-prefix tasks front marks prefix legal = record {
  known = All-prefix (λ mark. task_of mark < tasks) front marks prefix legal.known;
  in_turn = λ task inside.
      let turn = legal.in_turn task inside in
      (turn.0, prefix_trans _ _ _ (prefix_filter (λ mark. eqb (task_of mark) task) front marks prefix) turn.1);
}

-- if the marks of all messages are a legal history, none is refused
pub refuses_none : (tasks : ℕ) (contents : List Content) → IsLegalHistory tasks (flat_map marks_in contents) → RefusesNone tasks contents
refuses_none tasks contents legal before after next is =
    let c : Collection = record { tasks = tasks; marks = flat_map marks_in before; pairs = flat_map pairs_in before } in
    let more : (flat_map marks_in before ++ marks_in next) ++ flat_map marks_in after ≡ flat_map marks_in contents =
    append_assoc (flat_map marks_in before) (marks_in next) (flat_map marks_in after) ∙ sym (flat_map-append marks_in before (next ∷ after))
    ∙ ap (flat_map marks_in) is in
    let so_far : IsPrefix (flat_map marks_in before) (flat_map marks_in contents) = (
      marks_in next ++ flat_map marks_in after,
      sym (append_assoc (flat_map marks_in before) (marks_in next) (flat_map marks_in after)) ∙ more,
    ) in
    let then_too = IsLegalHistory-prefix tasks (flat_map marks_in before ++ marks_in next) (flat_map marks_in contents) (flat_map marks_in after, more) legal in
    let found = refuses_illegal c next (IsLegalHistory-prefix tasks (flat_map marks_in before) (flat_map marks_in contents) so_far legal) in
    ap (λ (d : Collection). refusal_of d next) (collected_is tasks before) ∙ found.1 then_too
