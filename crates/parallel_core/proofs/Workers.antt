-- Scripts of tasks, one list after another.
use Rattle.std.proofs.Common.{◌≡◌, Bool, ℕ, ◌<◌, true, false, List, [], ◌∷◌, ◌++◌, map, Result, IfOk, IfErr, is_ok, refl, sym, ap, ap₂, ◌∙◌, append_assoc, append-nil}
use Rattle.std.specs.declared.alloc.AllocError.{AllocError}
use Rattle.std.proofs.lemmas.Grind.{flat_map-append}
use Rattle.std.proofs.lemmas.List.{map-append}
use Rattle.std.proofs.lemmas.List.Elements.{All-nil, All-append, All-push}
use mathlib.Core.List.{IsPrefix}
use Rattle.relation_core.specs.declared.relation.Relation.{Relation}
use Rattle.rtree_core.specs.declared.node.Node.{Node}
use Rattle.deliver_core.specs.declared.port.Port.{Port}
use Rattle.deliver_core.specs.declared.outlet.Outlet.{Outlet}
use Rattle.deliver_core.specs.Boards.{BoardValue, SeatValue, IsSeatOf, IsAfterNumber}
use Rattle.deliver_core.specs.OutletCalls.{bye_of, IsEndedPort}
use Rattle.deliver_core.specs.Ports.{index_of, is_spent, sent_by}
use Rattle.deliver_core.specs.Scripts.{Content, script, content_of}
use Rattle.parallel_core.specs.declared.working.Worked.{Worked}
use Rattle.parallel_core.specs.Sending.{said_by, StaysOpen, Says, SaysPart}
use Rattle.parallel_core.specs.Jobs.{JobValue}
use Rattle.parallel_core.specs.Workers.{IsRowIn, AreScripts, BeginScripts, SaysScripts, SaysBeginning, WorkerSays, IsSeatBelow, ComesBack}
use Rattle.parallel_core.proofs.Results.{ok_weaker, match_ok, done_where_ok}

module _ (relation : Relation) (plan : List (Node × Node)) (size : ℕ) where
  pub no_scripts : AreScripts relation plan size [] []
  no_scripts = record { rows = []; each = All-nil (IsRowIn relation plan); numbers_are = refl; scripts = refl }

  pub one_script : (task : ℕ) (row : List (ℕ × ℕ)) → IsRowIn relation plan (task, row) → AreScripts relation plan size (task ∷ []) (script task size row)
  one_script task row is = record {
    rows = (task, row) ∷ [];
    each = All-push (IsRowIn relation plan) [] (task, row) (All-nil (IsRowIn relation plan)) is;
    numbers_are = refl;
    scripts = sym (append-nil (script task size row));
  }

  pub join_scripts : (ns ms : List ℕ) (xs ys : List Content) → AreScripts relation plan size ns xs → AreScripts relation plan size ms ys
      → AreScripts relation plan size (ns ++ ms) (xs ++ ys)
  join_scripts ns ms xs ys a b = record {
    rows = a.rows ++ b.rows;
    each = All-append (IsRowIn relation plan) a.rows b.rows a.each b.each;
    numbers_are = map-append (λ row. row.0) a.rows b.rows ∙ ap₂ (λ ks ls. ks ++ ls) a.numbers_are b.numbers_are;
    scripts = ap₂ (λ ks ls. ks ++ ls) a.scripts b.scripts ∙ sym (flat_map-append (λ row. script row.0 size row.1) a.rows b.rows);
  }

  prefix_behind : {A : Type 0} (front xs ys : List A) → IsPrefix xs ys → IsPrefix (front ++ xs) (front ++ ys)
  prefix_behind front xs ys begins = (begins.0, append_assoc front xs begins.0 ∙ ap (λ l. front ++ l) begins.1)

  pub join_beginning : (ns ms : List ℕ) (xs ys : List Content) → AreScripts relation plan size ns xs → BeginScripts relation plan size ms ys
      → BeginScripts relation plan size (ns ++ ms) (xs ++ ys)
  join_beginning ns ms xs ys a b = record {
    first = ns ++ b.first;
    are_first = prefix_behind ns b.first ms b.are_first;
    whole = xs ++ b.whole;
    scripts = join_scripts ns b.first xs b.whole a b.scripts;
    begins = prefix_behind xs ys b.whole b.begins;
  }

  -- the messages of a port for one task
  pub says_nothing : (task : ℕ) (port : Port) → SaysBeginning relation plan size (task ∷ []) port port
  says_nothing task port = record {
    more = [];
    scripts = record { first = []; are_first = (task ∷ [], refl); whole = []; scripts = no_scripts; begins = ([], refl) };
    says = sym (append-nil (said_by port));
  }

  pub says_one : (task : ℕ) (items row : List (ℕ × ℕ)) (old new : Port) → Says old new (script task size row) → row ≡ items
      → IsRowIn relation plan (task, items) → SaysScripts relation plan size (task ∷ []) old new
  says_one task items row old new says same is = record { more = script task size row; scripts = one_script task row (rw same is); says = says }

  pub says_part_of_one : (task : ℕ) (items row : List (ℕ × ℕ)) (old new : Port) → SaysPart old new (script task size row) → row ≡ items
      → IsRowIn relation plan (task, items) → SaysBeginning relation plan size (task ∷ []) old new
  says_part_of_one task items row old new says same is = record {
    more = says.0;
    scripts = record { first = task ∷ []; are_first = ([], refl); whole = script task size row; scripts = one_script task row (rw same is); begins = says.1 };
    says = says.2;
  }

  -- the contents that a port has sent, after it sends more
  pub said_more : (drawn drawn' ms : List ℕ) (old new : Port) → SaysScripts relation plan size ms old new → drawn' ≡ drawn ++ ms
      → AreScripts relation plan size drawn (said_by old) → AreScripts relation plan size drawn' (said_by new)
  said_more drawn drawn' ms old new more grown so_far =
      rw (grown, more.says) (join_scripts drawn ms (said_by old) more.more so_far more.scripts)

  pub said_part : (drawn drawn' ms : List ℕ) (old new : Port) → SaysBeginning relation plan size ms old new → drawn' ≡ drawn ++ ms
      → AreScripts relation plan size drawn (said_by old) → BeginScripts relation plan size drawn' (said_by new)
  said_part drawn drawn' ms old new more grown so_far =
      rw (grown, more.says) (join_beginning drawn ms (said_by old) more.more so_far more.scripts)

  -- the contents that it has sent apart from its Bye, by how its work ended
  worker_says : (drawn : List ℕ) (done ok : Bool) (before after : Port) (worked : Result (Unit {0}) AllocError)
      → sent_by after ≡ sent_by before ++ bye_of (index_of before) ok ∷ [] → ok ≡ is_ok worked
      → IfOk worked (λ x. (done ≡ true) × AreScripts relation plan size drawn (said_by before))
      → IfErr worked (λ x. BeginScripts relation plan size drawn (said_by before))
      → WorkerSays relation plan size drawn ok (said_by after)
  worker_says drawn done ok before after worked sent is all part = record {
    before = said_by before;
    said_is = ap (map content_of) sent ∙ map-append content_of (sent_by before) (bye_of (index_of before) ok ∷ []);
    scripts = match_ok (AreScripts relation plan size drawn (said_by before)) (BeginScripts relation plan size drawn (said_by before)) worked ok is
        (ok_weaker (λ h. h.1) worked all) part;
  }

-- a worker that has worked and said bye comes back
pub comes_back : (job : JobValue) (index : ℕ) (w : Worked) (before : Port) (worked : Result (Unit {0}) AllocError) → w.ok ≡ is_ok worked
    → IfOk worked (λ x. (w.seat.done ≡ true) × AreScripts job.relation job.plan job.size w.seat.drawn (said_by before))
    → IfErr worked (λ x. BeginScripts job.relation job.plan job.size w.seat.drawn (said_by before))
    → IsSeatBelow job.board w.seat → index_of before ≡ index → IsEndedPort job.outlet w.port → is_spent w.port ≡ false
    → index_of w.port ≡ index_of before → sent_by w.port ≡ sent_by before ++ bye_of (index_of before) w.ok ∷ [] → ComesBack job index w
comes_back job index w before worked is all part seat at ended unmet same sent = record {
  says = worker_says job.relation job.plan job.size w.seat.drawn w.seat.done w.ok before w.port worked sent is all part;
  seat = seat;
  done = λ ok. done_where_ok (w.seat.done ≡ true) (AreScripts job.relation job.plan job.size w.seat.drawn (said_by before)) worked
      (sym is ∙ ok) all;
  port = record { ended = ended; unmet = unmet; index_is = same ∙ at };
}

pub seat_gains : (board : BoardValue) (old new : SeatValue) (number : ℕ) → IsAfterNumber board old new number → IsSeatBelow board old → IsSeatOf board new
    → IsSeatBelow board new
seat_gains board old new number after so_far own = record {
  own = own;
  below = rw after.drawn (All-push (λ n. n < board.tasks) old.drawn number so_far.below after.task);
}

pub stays_on : (outlet : Outlet) (a b c : Port) → StaysOpen outlet a b → StaysOpen outlet b c → StaysOpen outlet a c
stays_on outlet a b c one two = record { ready = two.ready; index = two.index ∙ one.index }
