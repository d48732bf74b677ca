-- The messages that workers have sent make them the owners of the tasks that they drew.
use Rattle.std.proofs.Common.{◌≡◌, ℕ, zero, suc, ◌+◌, ◌<◌, ◌≤◌, Bool, true, false, cond, eqb, Some, List, [], ◌∷◌, ◌++◌, All, length, map, slice_get, refl, sym}
use Rattle.std.proofs.Common.{ap, ap₂, ◌∙◌, subst, arith}
use Rattle.std.specs.Prelude.{Any}
use Rattle.std.specs.List.{flat_map}
use Rattle.std.proofs.lemmas.Bool.Decides.{nat_tests}
use Rattle.std.proofs.lemmas.List.{append-nil, map-append}
use Rattle.std.proofs.lemmas.List.Elements.{All-nil, All-append}
use Rattle.std.proofs.lemmas.List.Sums.{sum_by-append}
use Rattle.std.proofs.lemmas.Option.{same_Some, none-some}
use Rattle.relation_core.specs.declared.relation.Relation.{Relation}
use Rattle.rtree_core.specs.declared.node.Node.{Node}
use Rattle.deliver_core.specs.declared.message.Message.{Message}
use Rattle.deliver_core.specs.Boards.{BoardValue, SeatValue}
use Rattle.deliver_core.specs.Draws.{times, once_below, AreNumbersBelow}
use Rattle.deliver_core.specs.Outlets.{of_port}
use Rattle.deliver_core.specs.Owners.{IsPart, IsWhole, KeepsOwners, IsComplete}
use Rattle.deliver_core.specs.Scripts.{Content, Task, bye, content_of}
use Rattle.parallel_core.specs.Teams.{IsShare}
use Rattle.parallel_core.specs.Workers.{IsRowIn, WorkerSays}
use Rattle.parallel_core.proofs.PlanOrder.{numbers_of}

abbrev all_tasks : List (List Task) → List Task
all_tasks owned = flat_map (λ tasks. tasks) owned

abbrev drawn_by : List SeatValue → List ℕ
drawn_by seats = flat_map (λ seat. seat.drawn) seats

times-append : (x : ℕ) (xs ys : List ℕ) → times x (xs ++ ys) ≡ times x xs + times x ys
times-append x xs ys = sum_by-append (λ y. cond {A = ℕ} (eqb y x) 1 0) xs ys

module _ (relation : Relation) (plan : List (Node × Node)) (size : ℕ) where
  -- the tasks that a worker owns, by the messages that it has sent
  record Owned (drawn : List ℕ) (ok : Bool) (said : List Content) : Type 0 where
    tasks : List Task
    each : All (IsRowIn relation plan) tasks
    some : (x : ℕ) → times x (numbers_of tasks) ≤ times x drawn
    part : IsPart size tasks said
    all : ok ≡ true → numbers_of tasks ≡ drawn
    whole : ok ≡ true → IsWhole size tasks said

  owned_of : (drawn : List ℕ) (ok : Bool) (said : List Content) → WorkerSays relation plan size drawn ok said → Owned drawn ok said
  owned_of drawn true said h =
      let scripts = h.scripts in
      record {
        tasks = scripts.rows;
        each = scripts.each;
        some = λ x. (let same = ap (times x) scripts.numbers_are in omega arith);
        part = record { before = h.before; last = Some true; said_is = h.said_is; begins = ([], append-nil h.before ∙ scripts.scripts) };
        all = λ is. scripts.numbers_are;
        whole = λ is. record { last = Some true; said_is = h.said_is ∙ ap (λ b. b ++ bye true ∷ []) scripts.scripts };
      }
  owned_of drawn false said h =
      let begun = h.scripts in
      let scripts = begun.scripts in
      record {
        tasks = scripts.rows;
        each = scripts.each;
        some = λ x. (
            let same = ap (times x) scripts.numbers_are in
            let more = ap (times x) (sym begun.are_first.1) ∙ times-append x begun.first begun.are_first.0 in
            omega arith);
        part = record { before = h.before; last = Some false; said_is = h.said_is; begins = (begun.begins.0, begun.begins.1 ∙ scripts.scripts) };
        all = λ is. cc;
        whole = λ is. cc;
      }

  -- the same of several workers, each at its place
  pub record AllOwned (at : ℕ → ℕ) (seats : List SeatValue) (ok : Bool) (messages : List Message) : Type 0 where
    pub owned : List (List Task)
    pub as_many : length owned ≡ length seats
    pub each : All (IsRowIn relation plan) (all_tasks owned)
    pub some : (x : ℕ) → times x (numbers_of (all_tasks owned)) ≤ times x (drawn_by seats)
    pub parts : (place : ℕ) (tasks : List Task) → slice_get owned place ≡ Some tasks → IsPart size tasks (map content_of (of_port (at place) messages))
    pub all : ok ≡ true → numbers_of (all_tasks owned) ≡ drawn_by seats
    pub whole : ok ≡ true → (place : ℕ) (tasks : List Task) → slice_get owned place ≡ Some tasks
        → IsWhole size tasks (map content_of (of_port (at place) messages))

  -- a fact of each index of a list
  each_place : (P : ℕ → List Task → Type 0) (first : List Task) (rest : List (List Task)) → P 0 first
      → ((place : ℕ) (tasks : List Task) → slice_get rest place ≡ Some tasks → P (suc place) tasks)
      → (place : ℕ) (tasks : List Task) → slice_get (first ∷ rest) place ≡ Some tasks → P place tasks
  each_place P first rest here later zero tasks is = subst (P 0) (same_Some _ _ is) here
  each_place P first rest here later (suc place) tasks is = later place tasks is

  pub all_owned : (board : BoardValue) (messages : List Message) (ok : Bool) (at : ℕ → ℕ) (seats : List SeatValue)
      → ((place : ℕ) (seat : SeatValue) → slice_get seats place ≡ Some seat → IsShare relation plan size board messages ok (at place) seat)
      → AllOwned at seats ok messages
  all_owned board messages ok at [] shares = record {
    owned = [];
    as_many = refl;
    each = All-nil (IsRowIn relation plan);
    some = λ x. omega arith;
    parts = λ place tasks is. absurd (none-some _ is);
    all = λ is. refl;
    whole = λ is place tasks is'. absurd (none-some _ is');
  }
  all_owned board messages ok at (seat ∷ seats) shares =
      let share = shares 0 seat refl in
      let said = map content_of (of_port (at 0) messages) in
      let one = owned_of seat.drawn share.ok said share.says in
      let rest = all_owned board messages ok (λ place. at (suc place)) seats (λ place other is. shares (suc place) other is) in
      record {
        owned = one.tasks ∷ rest.owned;
        as_many = ap suc rest.as_many;
        each = All-append (IsRowIn relation plan) one.tasks (all_tasks rest.owned) one.each rest.each;
        some = λ x. (
            let split = ap (times x) (map-append (λ (task : Task). task.0) one.tasks (all_tasks rest.owned)) ∙ times-append x (numbers_of one.tasks)
            (numbers_of (all_tasks rest.owned)) in
            let drawn = times-append x seat.drawn (drawn_by seats) in
            omega (arith, split, drawn, one.some x, rest.some x));
        parts = each_place (λ place tasks. IsPart size tasks (map content_of (of_port (at place) messages))) one.tasks rest.owned one.part rest.parts;
        all = λ is. map-append (λ (task : Task). task.0) one.tasks (all_tasks rest.owned)
            ∙ ap₂ (λ (a b : List ℕ). a ++ b) (one.all (share.counts is)) (rest.all is);
        whole = λ is. each_place (λ place tasks. IsWhole size tasks (map content_of (of_port (at place) messages))) one.tasks rest.owned
            (one.whole (share.counts is)) (rest.whole is);
      }

once_below_more : (n m x : ℕ) → n ≤ m → once_below n x ≤ once_below m x
once_below_more n m x few = grind (arith, nat_tests)

-- the workers are owners of their tasks, and of all tasks if all are successful
pub record AreOwners (relation : Relation) (plan : List (Node × Node)) (size tasks : ℕ) (ok : Bool) (messages : List Message) : Type 0 where
  pub owned : List (List Task)
  pub each : All (IsRowIn relation plan) (all_tasks owned)
  pub keeps : KeepsOwners (record { tasks = tasks; size = size; owned = owned; messages = messages })
  pub complete : ok ≡ true → IsComplete (record { tasks = tasks; size = size; owned = owned; messages = messages })

-- one of the workers is done if all are successful
some_done : (relation : Relation) (plan : List (Node × Node)) (size : ℕ) (board : BoardValue) (messages : List Message) (ok : Bool)
    (seats : List SeatValue) → 0 < length seats
    → ((place : ℕ) (seat : SeatValue) → slice_get seats place ≡ Some seat → IsShare relation plan size board messages ok place seat)
    → ok ≡ true → Any (λ (seat : SeatValue). seat.done ≡ true) seats
some_done relation plan size board messages ok [] some shares is = absurd (omega arith)
some_done relation plan size board messages ok (seat ∷ seats) some shares is =
    let share = shares 0 seat refl in
    (0, seat, omega arith, refl, share.done (share.counts is))

pub are_owners : (relation : Relation) (plan : List (Node × Node)) (size : ℕ) (board : BoardValue) (messages : List Message) (ok : Bool)
    (seats : List SeatValue)
    → 0 < length seats → All (λ (m : Message). m.port < length seats) messages
    → ((place : ℕ) (seat : SeatValue) → slice_get seats place ≡ Some seat → IsShare relation plan size board messages ok place seat)
    → ((n : ℕ) × (n ≤ board.tasks) × AreNumbersBelow n (drawn_by seats) × (Any (λ (seat : SeatValue). seat.done ≡ true) seats → n ≡ board.tasks))
    → AreOwners relation plan size board.tasks ok messages
are_owners relation plan size board messages ok seats some known shares drawn =
    let h = all_owned relation plan size board messages ok (λ place. place) seats shares in
    let n = drawn.0 in
    let few = drawn.1 in
    record {
      owned = h.owned;
      each = h.each;
      keeps = record {
        once = λ x. omega (arith, h.some x, drawn.2 x, once_below_more n board.tasks x few);
        known = subst (λ (count : ℕ). All (λ (m : Message). m.port < count) messages) (sym h.as_many) known;
        parts = h.parts;
      };
      complete = λ is.
          let all = drawn.3 (some_done relation plan size board messages ok seats some shares is) in
          record {
            all = λ x. ap (times x) (h.all is) ∙ drawn.2 x ∙ ap (λ m. once_below m x) all;
            parts = h.whole is;
          };
    }
