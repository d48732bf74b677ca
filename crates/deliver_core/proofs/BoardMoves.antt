-- Each step on the board's word preserves its rule, and the consequences of the last state.
use Rattle.std.proofs.Common.{◌≡◌, ◌≢◌, ℕ, zero, suc, ◌+◌, ◌-◌, ◌%◌, ◌^◌, ◌<◌, ◌≤◌, min, Bool, true, false, nat_lt, List, [], ◌∷◌, ◌++◌, length, get_or, set}
use Rattle.std.proofs.Common.{slice_index, sum_by, All, MatchBool, refl, sym, ap, ◌∙◌, subst, ⊎_elim, arith, length-append, length-set, get_or-set_same}
use Rattle.std.specs.List.Sorted.{IsStrictlyIncreasing}
use Rattle.std.proofs.lemmas.Bool.Decides.{nat_tests}
use Rattle.std.proofs.lemmas.Bool.{cases_lt}
use Rattle.std.proofs.lemmas.List.{get_or_append_left, get_or_push}
use Rattle.std.proofs.lemmas.List.Sums.{sum_by-cons, sum_by_push}
use mathlib.Core.Option.{none, some, some-injective, some-ne-none}
use lib.ListN.{get_elem?}
use Rattle.atomic_table.specs.Table.{State, Me, Act, opening, step, keeps, Valid, stepped, carried_after, Allows, Splits, Joins}
use Rattle.atomic_table.proofs.Lists.{at_set, at_snoc, set_else}
use Rattle.deliver_core.specs.declared.board.rule.SeatView.{SeatView}
use Rattle.deliver_core.specs.declared.board.rule.Size.{Size}
use Rattle.deliver_core.specs.Draws.{times, AreNumbersBelow, Tally}
use Rattle.deliver_core.specs.BoardRule.{seat_view, FitsBoard, ObeysRule, TableObeysRule, Drew}
use Rattle.deliver_core.proofs.BoardTallies.{sum_at, part_le, tally_draws, tally_ends, tally_same, tally_below, tally_length, times-append}

-- a number greater than all the others is added after them
pub increasing_push : (xs : List ℕ) (k : ℕ) → IsStrictlyIncreasing xs → All (λ j. j < k) xs → IsStrictlyIncreasing (xs ++ k ∷ [])
increasing_push xs k rises below i h =
    ⊎_elim
    (λ (inner : i + 1 < length xs).
    let here : get_or (xs ++ k ∷ []) i 0 ≡ get_or xs i 0 = get_or_append_left xs (k ∷ []) 0 i (omega arith) in
    let next : get_or (xs ++ k ∷ []) (i + 1) 0 ≡ get_or xs (i + 1) 0 = get_or_append_left xs (k ∷ []) 0 (i + 1) inner in
    let less = rises i inner in
    omega arith)
    (λ (last : length xs ≤ i + 1).
    let long = length-append xs (k ∷ []) in
    let here : get_or (xs ++ k ∷ []) i 0 ≡ get_or xs i 0 = get_or_append_left xs (k ∷ []) 0 i (omega arith) in
    let next : get_or (xs ++ k ∷ []) (i + 1) 0 ≡ k = get_or_push xs k 0 (i + 1) (omega arith) in
    let less = below i 0 (omega arith) in
    omega arith)
    (cases_lt (i + 1) (length xs))

sums_le : {X : Type 0} (f g : X → ℕ) (xs : List X) → ((i : ℕ) (v : X) → get_elem? xs i ≡ some v → f v ≤ g v) → sum_by f xs ≤ sum_by g xs
sums_le f g [] le = omega arith
sums_le f g (x ∷ xs) le =
    let first = le 0 x refl in
    let rest = sums_le f g xs (λ i v at. le (suc i) v at) in
    omega (arith, sum_by-cons f x xs, sum_by-cons g x xs)

-- the word never passes the numbers of tasks and seats together
pub word_bound : (size : Size) (word : ℕ) (views : List SeatView) → ObeysRule size word views → word ≤ size.tasks + size.seats
word_bound size word views k =
    let overs = sums_le (λ (v : SeatView). v.over) (λ (v : SeatView). v.parts) views (λ i v at. (k.each i v at).over) in
    let parts = k.parts in
    let is = k.tally.word_is in
    omega arith

each_set : (size : Size) (views : List SeatView) (i : ℕ) (w : SeatView) → ((j : ℕ) (u : SeatView) → get_elem? views j ≡ some u → FitsBoard size u)
    → FitsBoard size w
    → (j : ℕ) (u : SeatView) → get_elem? (set views i w) j ≡ some u → FitsBoard size u
each_set size views i w each here j u at =
    ⊎_elim
    (λ (t : (j ≡ i) × (w ≡ u)). subst (FitsBoard size) t.1 here)
    (λ (t : (j ≢ i) × (get_elem? views j ≡ some u)). each j u t.1)
    (at_set views i j w u at)

-- a draw of a seat of one part that has not met the end

module _ (size : Size) (word : ℕ) (views : List SeatView) (k : ObeysRule size word views) (i : ℕ) (v : SeatView) (at : get_elem? views i ≡ some v)
    (one : v.parts ≡ 1) where
  number_drawn : word < v.tasks → ObeysRule size (word + 1) (set views i (seat_view v.tasks v.seats v.parts (v.drawn ++ word ∷ []) v.over))
  number_drawn below =
      let w : SeatView = seat_view v.tasks v.seats v.parts (v.drawn ++ word ∷ []) v.over in
      let mine = k.each i v at in
      let live = mine.live (omega arith) in
      let s = sum_at (λ (u : SeatView). u.parts) views i v w at in
      let parts = k.parts in record {
        parts = omega arith;
        tally = tally_draws (λ (u : SeatView). u.drawn) (λ (u : SeatView). u.over) size.tasks word views k.tally i v w at (omega arith) refl refl;
        each = each_set size views i w k.each (record {
          live = mine.live;
          over = mine.over;
          idle = λ e. absurd (omega arith);
          rises = λ h. increasing_push v.drawn word (mine.rises h)
              (tally_below (λ (u : SeatView). u.drawn) (λ (u : SeatView). u.over) size.tasks word views k.tally i v at);
        });
      }

  end_met : v.tasks ≤ word → v.over ≡ 0 → ObeysRule size (word + 1) (set views i (seat_view v.tasks v.seats v.parts v.drawn (v.over + 1)))
  end_met past zero_over =
      let w : SeatView = seat_view v.tasks v.seats v.parts v.drawn (v.over + 1) in
      let mine = k.each i v at in
      let live = mine.live (omega arith) in
      let s = sum_at (λ (u : SeatView). u.parts) views i v w at in
      let parts = k.parts in record {
        parts = omega arith;
        tally = tally_ends (λ (u : SeatView). u.drawn) (λ (u : SeatView). u.over) size.tasks word views k.tally i v w at (omega arith) refl refl;
        each = each_set size views i w k.each (record { live = mine.live; over = omega arith; idle = mine.idle; rises = mine.rises });
      }

-- the rule of a table whose word went up by one
table_set : (size : Size) (s : State (Unit {0}) SeatView) (i : ℕ) (me : Me (Unit {0}) SeatView) (w : SeatView) → length s.words ≡ 1 → size.tasks < 2 ^ 32
    → size.seats < 2 ^ 32
    → ObeysRule size (slice_index s.words 0 + 1) (set s.views i w) → TableObeysRule size (stepped s 0 ((slice_index s.words 0 + 1) % 2 ^ 64) i me.1 w keeps)
table_set size s i me w wide tasks seats ruled =
    let word : ℕ = slice_index s.words 0 in
    let bound : word + 1 ≤ size.tasks + size.seats = word_bound size (word + 1) (set s.views i w) ruled in
    let fits : word + 1 ≡ (word + 1) % 2 ^ 64 = omega arith in
    let now : (word + 1) % 2 ^ 64 ≡ get_or (set s.words 0 ((word + 1) % 2 ^ 64)) 0 0 = sym (get_or-set_same s.words 0 ((word + 1) % 2 ^ 64) 0 (omega arith)) in
    (length-set s.words 0 ((word + 1) % 2 ^ 64) ∙ wide, subst (λ (n : ℕ). ObeysRule size n (set s.views i w)) (fits ∙ now) ruled)

pub draws : (size : Size) (slots i : ℕ) (me : Me (Unit {0}) SeatView) → me.0.parts ≡ 1 → me.0.over ≡ 0 → size.tasks < 2 ^ 32 → size.seats < 2 ^ 32
    → Allows (TableObeysRule size) slots i me 0 (λ n. (n + 1) % 2 ^ 64) (Drew (step slots 0 1 0 none) me)
draws size slots i me one zero_over tasks seats s holds _ at _ = go (nat_lt word v.tasks) refl
  where
    v : SeatView
    v = me.0

    word : ℕ
    word = slice_index s.words 0

    Tells : Bool → SeatView → Type 0
    Tells b w =
        MatchBool b
        (All (λ k. k < word) v.drawn × (length v.drawn ≤ word) × (w ≡ seat_view v.tasks v.seats v.parts (v.drawn ++ word ∷ []) v.over))
        (w ≡ seat_view v.tasks v.seats v.parts v.drawn (v.over + 1))

    moved : (w : SeatView) → ObeysRule size (word + 1) (set s.views i w)
        → TableObeysRule size (stepped s 0 ((word + 1) % 2 ^ 64) i me.1 w keeps) × (word < v.tasks + v.seats)
    moved w ruled =
        let live = (holds.1.each i v at).live (omega arith) in
        let bound = word_bound size (word + 1) (set s.views i w) ruled in
        (table_set size s i me w holds.0 tasks seats ruled, omega arith)

    go : (b : Bool) → nat_lt word v.tasks ≡ b
        → (w : SeatView) × (a : Act (Unit {0})) × Valid s.homes me.1 a × TableObeysRule size (stepped s 0 ((word + 1) % 2 ^ 64) i me.1 w a)
        × ((word < v.tasks + v.seats) × (carried_after me.1 a ≡ me.1) × Tells b w)
    go true is =
        let w : SeatView = seat_view v.tasks v.seats v.parts (v.drawn ++ word ∷ []) v.over in
        let below : word < v.tasks = grind (arith, nat_tests) in
        let m = moved w (number_drawn size word s.views holds.1 i v at one below) in
        let t = holds.1.tally in
        let all = tally_below (λ (u : SeatView). u.drawn) (λ (u : SeatView). u.over) size.tasks word s.views t i v at in
        let few = tally_length (λ (u : SeatView). u.drawn) (λ (u : SeatView). u.over) size.tasks word s.views t i v at in
        (w, keeps, tt, m.0, (m.1, refl, (all, few, refl)))
    go false is =
        let w : SeatView = seat_view v.tasks v.seats v.parts v.drawn (v.over + 1) in
        let past : v.tasks ≤ word = grind (arith, nat_tests) in
        let m = moved w (end_met size word s.views holds.1 i v at one past zero_over) in
        (w, keeps, tt, m.0, (m.1, refl, refl))

-- at the start one view stands for all seats, which have drawn nothing
pub opens : (size : Size) → TableObeysRule size (opening (0 ∷ []) [] (seat_view size.tasks size.seats size.seats [] 0))
opens size = (refl, record { parts = omega (arith, sum_by-cons (λ (u : SeatView). u.parts) first []); tally = tally; each = each })
  where
    first : SeatView
    first = seat_view size.tasks size.seats size.seats [] 0

    least : min 0 size.tasks ≡ 0
    least = omega arith

    tally : Tally (λ (u : SeatView). u.drawn) (λ (u : SeatView). u.over) size.tasks 0 (first ∷ [])
    tally = record {
      numbers = λ x. rw least (grind (arith, nat_tests, sum_by-cons (λ (u : SeatView). times x u.drawn) first []));
      lengths = omega (arith, sum_by-cons (λ (u : SeatView). length u.drawn) first []);
      word_is = omega (arith, sum_by-cons (λ (u : SeatView). u.over) first []);
    }

    each : (j : ℕ) (u : SeatView) → get_elem? (first ∷ []) j ≡ some u → FitsBoard size u
    each zero u at =
        subst (FitsBoard size) (some-injective first u at)
        (record { live = λ _. (refl, refl); over = omega arith; idle = λ _. refl; rises = λ _ k h. absurd (omega arith) })
    each (suc j) u at = absurd (some-ne-none u (sym at))

-- one seat of several that have drawn nothing goes to a view of its own
pub splits : (size : Size) (i : ℕ) (v : SeatView) → 1 < v.parts → v.drawn ≡ [] → v.over ≡ 0
    → Splits (TableObeysRule size) i v (seat_view v.tasks v.seats (v.parts - 1) v.drawn v.over) (seat_view v.tasks v.seats 1 [] 0)
splits size i v several nothing zero_over s holds at = (holds.0, ruled)
  where
    left : SeatView
    left = seat_view v.tasks v.seats (v.parts - 1) v.drawn v.over

    right : SeatView
    right = seat_view v.tasks v.seats 1 [] 0

    views : List SeatView
    views = set s.views i left ++ right ∷ []

    word : ℕ
    word = slice_index s.words 0

    same : (f : SeatView → ℕ) → f left ≡ f v → f right ≡ 0 → sum_by f views ≡ sum_by f s.views
    same f stays nil =
        let one = sum_at f s.views i v left at in
        omega (arith, sum_by_push f (set s.views i left) right)

    rises_empty : IsStrictlyIncreasing []
    rises_empty k h = absurd (omega arith)

    each : (j : ℕ) (u : SeatView) → get_elem? views j ≡ some u → FitsBoard size u
    each j u there =
        let mine = holds.1.each i v at in
        let live = mine.live (omega arith) in
        let of_left : FitsBoard size left = record {
          live = λ _. live;
          over = omega arith;
          idle = λ _. nothing;
          rises = λ _. subst IsStrictlyIncreasing (sym nothing) rises_empty;
        } in
        let of_right : FitsBoard size right = record { live = λ _. live; over = omega arith; idle = λ _. refl; rises = λ _. rises_empty } in
        ⊎_elim (each_set size s.views i left holds.1.each of_left j u) (λ (e : right ≡ u). subst (FitsBoard size) e of_right)
        (at_snoc (set s.views i left) right u j there)

    ruled : ObeysRule size word views
    ruled =
        let one = sum_at (λ (u : SeatView). u.parts) s.views i v left at in
        let parts = holds.1.parts in record {
          parts = omega (arith, sum_by_push (λ (u : SeatView). u.parts) (set s.views i left) right);
          tally = tally_same (λ (u : SeatView). u.drawn) (λ (u : SeatView). u.over) size.tasks word s.views holds.1.tally views
              (λ x. same (λ (u : SeatView). times x u.drawn) refl refl) (same (λ (u : SeatView). length u.drawn) refl refl)
              (same (λ (u : SeatView). u.over) refl refl);
          each = each;
        }

-- one view takes over another
pub joins : (size : Size) (i : ℕ) (v : SeatView) (other : ℕ) (w : SeatView) → 0 < v.parts → 0 < w.parts
    → Joins (TableObeysRule size) i v other w (seat_view v.tasks v.seats (v.parts + w.parts) (v.drawn ++ w.drawn) (v.over + w.over)) (seat_view 0 0 0 [] 0)
joins size i v other w here there s holds at apart other_at = (holds.0, ruled)
  where
    both : SeatView
    both = seat_view v.tasks v.seats (v.parts + w.parts) (v.drawn ++ w.drawn) (v.over + w.over)

    spent : SeatView
    spent = seat_view 0 0 0 [] 0

    views : List SeatView
    views = set (set s.views i both) other spent

    word : ℕ
    word = slice_index s.words 0

    same : (f : SeatView → ℕ) → f both ≡ f v + f w → f spent ≡ 0 → sum_by f views ≡ sum_by f s.views
    same f adds nil =
        let one = sum_at f s.views i v both at in
        let two = sum_at f (set s.views i both) other w spent other_at in
        omega arith

    each : (j : ℕ) (u : SeatView) → get_elem? views j ≡ some u → FitsBoard size u
    each =
        let mine = holds.1.each i v at in
        let theirs = holds.1.each other w (sym (set_else s.views i other both apart) ∙ other_at) in
        let over = mine.over in
        let over' = theirs.over in
        let of_both : FitsBoard size both = record {
          live = λ _. mine.live here;
          over = omega arith;
          idle = λ e. absurd (omega arith);
          rises = λ e. absurd (omega arith);
        } in
        let of_spent : FitsBoard size spent =
        record { live = λ e. absurd (omega arith); over = omega arith; idle = λ _. refl; rises = λ e. absurd (omega arith) } in
        each_set size (set s.views i both) other spent (each_set size s.views i both holds.1.each of_both) of_spent

    ruled : ObeysRule size word views
    ruled = record {
      parts = same (λ (u : SeatView). u.parts) refl refl ∙ holds.1.parts;
      tally = tally_same (λ (u : SeatView). u.drawn) (λ (u : SeatView). u.over) size.tasks word s.views holds.1.tally views
          (λ x. same (λ (u : SeatView). times x u.drawn) (times-append x v.drawn w.drawn) refl)
          (same (λ (u : SeatView). length u.drawn) (length-append v.drawn w.drawn) refl)
          (same (λ (u : SeatView). u.over) refl refl);
      each = each;
    }

sum_none : {X : Type 0} (f : X → ℕ) (xs : List X) → ((i : ℕ) (v : X) → get_elem? xs i ≡ some v → f v ≡ 0) → sum_by f xs ≡ 0
sum_none f [] nil = refl
sum_none f (x ∷ xs) nil =
    let first = nil 0 x refl in
    let rest = sum_none f xs (λ i v at. nil (suc i) v at) in
    omega (arith, sum_by-cons f x xs)

-- a view that stands for all seats has all draws
module _ (size : Size) (word : ℕ) (views : List SeatView) (k : ObeysRule size word views) (i : ℕ) (v : SeatView) (at : get_elem? views i ≡ some v)
    (all : v.parts ≡ size.seats) where
  alone : (f : SeatView → ℕ) → ((u : SeatView) → FitsBoard size u → u.parts ≡ 0 → f u ≡ 0) → sum_by f views ≡ f v
  alone f idle =
      let spent : SeatView = seat_view 0 0 0 [] 0 in
      let of_spent : FitsBoard size spent =
      record { live = λ e. absurd (omega arith); over = omega arith; idle = λ _. refl; rises = λ e. absurd (omega arith) } in
      let others : List SeatView = set views i spent in
      let each : (j : ℕ) (u : SeatView) → get_elem? others j ≡ some u → FitsBoard size u = each_set size views i spent k.each of_spent in
      let parts = k.parts in
      let left = sum_at (λ (u : SeatView). u.parts) views i v spent at in
      let nobody : sum_by (λ (u : SeatView). u.parts) others ≡ 0 = omega arith in
      let nil : sum_by f others ≡ 0 =
      sum_none f others (λ j u there. idle u (each j u there) (let part = part_le (λ (x : SeatView). x.parts) others j u there in omega arith)) in
      let zero_at_none : f spent ≡ 0 = idle spent of_spent refl in
      let s = sum_at f views i v spent at in
      omega arith

  pub all_drawn : AreNumbersBelow (min word size.tasks) v.drawn
  all_drawn x = sym (alone (λ (u : SeatView). times x u.drawn) (λ u stands idle. ap (times x) (stands.idle idle))) ∙ k.tally.numbers x

  pub all_over : word ≡ min word size.tasks + v.over
  all_over = k.tally.word_is ∙ ap (λ n. min word size.tasks + n) (alone (λ (u : SeatView). u.over) (λ u stands idle. let over = stands.over in omega arith))

  -- if some seat has met the end, the word has passed all tasks
  pub end_passed : 0 < v.over → min word size.tasks ≡ size.tasks
  end_passed some_over = let is = all_over in omega arith
