-- The roots of two trees, and the tasks of the plan below them.
use Rattle.std.proofs.Common.{arith, ◌≡◌, ℕ, Bor, List, [], ◌∷◌, ◌++◌, length, refl, sym, ap, subst}
use Rattle.std.specs.Prelude.{All, Option, Some, None, IfSome, Contains}
use Rattle.std.proofs.lemmas.List.{append-nil}
use Rattle.std.proofs.lemmas.List.Elements.{All-nil, All-cons}
use Rattle.rtree_core.specs.declared.node.Entry.{Entry}
use Rattle.rtree_core.specs.declared.node.Node.{Node}
use Rattle.rtree_core.specs.Nodes.{entries_of, IsLawful}
use Rattle.rtree_core.specs.Trees.{entries_in, IsTree, IsRoot}
use Rattle.descent_core.specs.Lists.{IsKept, none, kept, left_out}
use Rattle.descent_core.specs.Depths.{at_depth}
use Rattle.descent_core.specs.Plans.{roots, CoversMeet, AreAt, AreDeepest, IsPlan}
use Rattle.descent_core.specs.Steps.{nodes_of, AreMeeting, AreTop, AreTasks}
use Rattle.descent_core.proofs.DepthLemmas.{AreLawful}
use Rattle.descent_core.proofs.FindLemmas.{contains_none}
use Rattle.descent_core.proofs.GoingLemmas.{deepest_kept}
use Rattle.descent_core.proofs.KeptLemmas.{kept_one}
use Rattle.descent_core.proofs.ShareLemmas.{SharesMet, shares_depth}

pub top_none_left : (left right : Option Node) → IsTree left → IsTree right → None ≡ left → AreTop left right []
top_none_left left right l r e = record {
  left_tree = l;
  right_tree = r;
  kept = subst (λ t. IsKept CoversMeet (roots t right) []) e none;
  meeting = All-nil AreMeeting;
  one = omega arith;
}

no_pair : (left : Option Node) → IsKept CoversMeet (roots left None) []
no_pair None = none
no_pair (Some a) = none

pub top_none_right : (left right : Option Node) → IsTree left → IsTree right → None ≡ right → AreTop left right []
top_none_right left right l r e = record {
  left_tree = l;
  right_tree = r;
  kept = subst (λ t. IsKept CoversMeet (roots left t) []) e (no_pair left);
  meeting = All-nil AreMeeting;
  one = omega arith;
}

pub top_apart : (left right : Option Node) (a b : Node) → IsTree left → IsTree right → Some a ≡ left → Some b ≡ right → ¬ (CoversMeet (a, b)) →
    AreTop left right []
top_apart left right a b l r e f apart = record {
  left_tree = l;
  right_tree = r;
  kept = subst (λ t. IsKept CoversMeet (roots t right) []) e (subst (λ t. IsKept CoversMeet (roots (Some a) t) []) f (left_out apart none));
  meeting = All-nil AreMeeting;
  one = omega arith;
}

root_lawful : (root : Option Node) (n : Node) → IsTree root → Some n ≡ root → IsLawful n
root_lawful root n tree e =
    let is_root : IsRoot n = subst (λ t. IfSome t IsRoot) (sym e) tree.lawful in
    is_root.lawful

top_met : (left right : Option Node) (a b : Node) → IsTree left → IsTree right → Some a ≡ left → Some b ≡ right → CoversMeet (a, b) →
    AreTop left right ((a, b) ∷ [])
top_met left right a b l r e f meet = record {
  left_tree = l;
  right_tree = r;
  kept = subst (λ t. IsKept CoversMeet (roots t right) ((a, b) ∷ [])) e
      (subst (λ t. IsKept CoversMeet (roots (Some a) t) ((a, b) ∷ [])) f (kept meet none));
  meeting = All-cons AreMeeting (a, b) []
      (record { left = root_lawful left a l e; right = root_lawful right b r f; meet = meet }) (All-nil AreMeeting);
  one = omega arith;
}

pub top_pushed : (left right : Option Node) (a b : Bor Node) (old new : List (Bor Node × Bor Node)) → IsTree left → IsTree right → Some a.now ≡ left →
    Some b.now ≡ right → CoversMeet (a.now, b.now) → old ≡ [] → new ≡ old ++ (a, b) ∷ [] → AreTop left right (nodes_of new)
top_pushed left right a b old new l r e f meet empty items = rw (items, empty) (top_met left right a.now b.now l r e f meet)

roots_lawful : (left right : Option Node) → IsTree left → IsTree right → All AreLawful (roots left right)
roots_lawful None right l r = All-nil AreLawful
roots_lawful (Some a) None l r = All-nil AreLawful
roots_lawful (Some a) (Some b) l r = All-cons AreLawful (a, b) [] (l.lawful.lawful, r.lawful.lawful) (All-nil AreLawful)

-- the plan below the roots
pub plan_below : (left right : Option Node) (top : List (Node × Node)) (cut : ℕ) (tasks : List (Node × Node)) → AreTop left right top →
    AreDeepest top cut tasks → IsPlan left right cut tasks
plan_below left right top cut tasks t h = deepest_kept (roots left right) top cut tasks (roots_lawful left right t.left_tree t.right_tree) t.kept h

no_tasks : (tasks : List (Node × Node)) → IsKept CoversMeet [] tasks → tasks ≡ []
no_tasks _ none = refl

shares_none : (es fs : List Entry) → ((e f : Entry) → Contains es e → Contains fs f → ⊥) → SharesMet es fs []
shares_none es fs nothing = record {
  lawful = All-nil AreLawful;
  lefts = All-nil _;
  rights = All-nil _;
  every = λ e f c d m. absurd (nothing e f c d);
  once = λ i j. omega arith;
}

-- the common facts of the tasks at a depth below the roots
pub shares_below : (left right : Option Node) (d : ℕ) (tasks : List (Node × Node)) → IsTree left → IsTree right → AreAt (roots left right) d tasks →
    SharesMet (entries_in left) (entries_in right) tasks
shares_below None right d tasks l r k =
    subst (SharesMet [] (entries_in right)) (sym (no_tasks tasks k)) (shares_none [] (entries_in right) (λ e f c d. contains_none e c))
shares_below (Some a) None d tasks l r k =
    subst (SharesMet (entries_of a) []) (sym (no_tasks tasks k)) (shares_none (entries_of a) [] (λ e f c d. contains_none f d))
shares_below (Some a) (Some b) d tasks l r k =
    shares_depth d (a, b) tasks (l.lawful.lawful, r.lawful.lawful)
    (subst (λ ps. IsKept CoversMeet ps tasks) (append-nil (at_depth d (a, b))) k)

pub shares_plan : (left right : Option Node) (cut : ℕ) (tasks : List (Node × Node)) → IsTree left → IsTree right → IsPlan left right cut tasks →
    SharesMet (entries_in left) (entries_in right) tasks
shares_plan left right cut tasks l r plan = shares_below left right plan.depth tasks l r plan.tasks_are

-- the invariant that the methods of a plan rely on
pub tasks_of_plan : (left right : Option Node) (cut : ℕ) (tasks : List (Node × Node)) → IsTree left → IsTree right → IsPlan left right cut tasks →
    AreTasks tasks
tasks_of_plan left right cut tasks l r plan =
    let shares = shares_plan left right cut tasks l r plan in
    let few = plan.few plan.depth (omega arith) in
    record {
      few = omega (arith, few.2, ap length (kept_one CoversMeet few.1 plan.tasks_are));
      each = λ k d lt. record {
        left = (shares.lawful k d lt).0;
        right = (shares.lawful k d lt).1;
        left_once = λ n. omega (arith, (shares.lefts k d lt).counted n, l.distinct n);
        right_once = λ n. omega (arith, (shares.rights k d lt).counted n, r.distinct n);
      };
    }
