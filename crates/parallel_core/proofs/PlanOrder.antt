-- Tasks in any order, each once, have their rows in the order of their numbers too.
use Rattle.std.proofs.Common.{◌≡◌, ℕ, zero, suc, ◌+◌, ◌<◌, inl, inr, Bool, cond, eqb, Some, List, [], ◌∷◌, ◌++◌, length, map, slice_get, refl, sym, ap, ◌∙◌}
use Rattle.std.proofs.Common.{subst, arith, append_assoc, add-one, length-append}
use Rattle.std.specs.Prelude.{Contains, IsPermutation}
use Rattle.std.specs.List.{flat_map}
use Rattle.std.proofs.lemmas.Bool.Decides.{eqb_tells, nat_tests}
use Rattle.std.proofs.lemmas.Grind.{flat_map-append}
use Rattle.std.proofs.lemmas.List.{append-nil, map-append}
use Rattle.std.proofs.lemmas.List.Elements.{Contains-append_left, Contains-append_right, Contains-append_cases}
use Rattle.std.proofs.lemmas.List.Sorted.{IsPermutation-refl, IsPermutation-trans, IsPermutation-append_left, IsPermutation-append_right}
use Rattle.std.proofs.lemmas.List.Sorted.{IsPermutation-append_comm}
use Rattle.std.proofs.lemmas.List.Sums.{sum_by-append, sum_by-cons}
use Rattle.std.proofs.lemmas.Option.{none-some}
use Rattle.deliver_core.specs.Draws.{AreNumbersBelow, times, once_below}
use Rattle.deliver_core.specs.Scripts.{Task}
use Rattle.parallel_core.proofs.Teams.{get_push}

abbrev pub numbers_of : List Task → List ℕ
numbers_of tasks = map (λ task. task.0) tasks

abbrev one : ℕ → ℕ → ℕ
one y x = cond {A = ℕ} (eqb y x) 1 0

times-append : (x : ℕ) (xs ys : List ℕ) → times x (xs ++ ys) ≡ times x xs + times x ys
times-append x xs ys = sum_by-append (λ y. one y x) xs ys

times-cons : (x y : ℕ) (ys : List ℕ) → times x (y ∷ ys) ≡ one y x + times x ys
times-cons x y ys = sum_by-cons (λ z. one z x) y ys

one_itself : (x : ℕ) → one x x ≡ 1
one_itself x = elim (eqb_tells x x) [ inl here ↦ ap (λ (b : Bool). cond {A = ℕ} b 1 0) here.0 | inr other ↦ absurd (other.1 refl) ]

-- a number that occurs in the list
pub record Parts (number : ℕ) (tasks : List Task) : Type 0 where
  pub front : List Task
  pub row : List (ℕ × ℕ)
  pub rest : List Task
  pub is : tasks ≡ front ++ (number, row) ∷ rest

find : (number : ℕ) (tasks : List Task) → 0 < times number (numbers_of tasks) → Parts number tasks
find number [] some = absurd (omega arith)
find number (task ∷ tasks) some =
    elim (eqb_tells task.0 number) [
      | inl here ↦ record { front = []; row = task.1; rest = tasks; is = ap (λ n. (n, task.1) ∷ tasks) here.1 }
      | inr other ↦
          let none : one task.0 number ≡ 0 = ap (λ (b : Bool). cond {A = ℕ} b 1 0) other.0 in
          let later = find number tasks (omega (arith, times-cons number task.0 (numbers_of tasks), none)) in
          record { front = task ∷ later.front; row = later.row; rest = later.rest; is = ap (λ l. task ∷ l) later.is }
    ]

-- the others are the numbers below it
below_last : (n x : ℕ) → once_below (suc n) x ≡ one n x + once_below n x
below_last n x = elim (eqb_tells n x) [
  | inl here ↦ grind (arith, nat_tests)
  | inr other ↦ grind (arith, nat_tests)
]

fewer : (n : ℕ) (front rest : List Task) (row : List (ℕ × ℕ)) → AreNumbersBelow (suc n) (numbers_of (front ++ (n, row) ∷ rest))
    → AreNumbersBelow n (numbers_of (front ++ rest))
fewer n front rest row all x =
    let whole = ap (times x) (map-append (λ (t : Task). t.0) front ((n, row) ∷ rest)) ∙ times-append x (numbers_of front) (n ∷ numbers_of rest) in
    let less = ap (times x) (map-append (λ (t : Task). t.0) front rest) ∙ times-append x (numbers_of front) (numbers_of rest) in
    omega (arith, all x, whole, less, times-cons x n (numbers_of rest), below_last n x)

-- the rows in order, given the tasks in any
pub record InOrder (count : ℕ) (tasks : List Task) : Type 0 where
  pub rows : List (List (ℕ × ℕ))
  pub as_many : length rows ≡ count
  pub found : (k : ℕ) (row : List (ℕ × ℕ)) → slice_get rows k ≡ Some row → Contains tasks (k, row)
  pub same : IsPermutation (flat_map (λ (t : Task). t.1) tasks) (flat_map (λ (row : List (ℕ × ℕ)). row) rows)

none_below : (x : ℕ) → once_below 0 x ≡ 0
none_below x = grind (arith, nat_tests)

no_task : (tasks : List Task) → AreNumbersBelow 0 (numbers_of tasks) → tasks ≡ []
no_task [] all = refl
no_task (task ∷ tasks) all = absurd (omega (arith, all task.0, none_below task.0, times-cons task.0 task.0 (numbers_of tasks), one_itself task.0))

here_contains : (front rest : List Task) (task : Task) → Contains (front ++ task ∷ rest) task
here_contains front rest task = Contains-append_right front (task ∷ rest) task (0, omega arith, refl)

other_contains : (front rest : List Task) (task other : Task) → Contains (front ++ rest) other → Contains (front ++ task ∷ rest) other
other_contains front rest task other is =
    elim (Contains-append_cases front rest other is) [
      | inl left ↦ Contains-append_left front (task ∷ rest) other left
      | inr right ↦ Contains-append_right front (task ∷ rest) other (Contains-append_right (task ∷ []) rest other right)
    ]

pairs_move : (front rest : List Task) (n : ℕ) (row : List (ℕ × ℕ)) (rows : List (List (ℕ × ℕ)))
    → IsPermutation (flat_map (λ (t : Task). t.1) (front ++ rest)) (flat_map (λ (r : List (ℕ × ℕ)). r) rows)
    → IsPermutation (flat_map (λ (t : Task). t.1) (front ++ (n, row) ∷ rest)) (flat_map (λ (r : List (ℕ × ℕ)). r) (rows ++ row ∷ []))
pairs_move front rest n row rows same =
    let pairs : List Task → List (ℕ × ℕ) = λ ts. flat_map (λ (t : Task). t.1) ts in
    let all : List (List (ℕ × ℕ)) → List (ℕ × ℕ) = λ rs. flat_map (λ (r : List (ℕ × ℕ)). r) rs in
    let from : pairs (front ++ (n, row) ∷ rest) ≡ pairs front ++ (row ++ pairs rest) = flat_map-append (λ (t : Task). t.1) front ((n, row) ∷ rest) in
    let moved : (pairs front ++ (pairs rest ++ row)) ≡ pairs (front ++ rest) ++ row =
    sym (append_assoc (pairs front) (pairs rest) row) ∙ ap (λ l. l ++ row) (sym (flat_map-append (λ (t : Task). t.1) front rest)) in
    let to : all rows ++ row ≡ all (rows ++ row ∷ []) =
    ap (λ l. all rows ++ l) (sym (append-nil row)) ∙ sym (flat_map-append (λ (r : List (ℕ × ℕ)). r) rows (row ∷ [])) in
    let swapped : IsPermutation (pairs front ++ (row ++ pairs rest)) (pairs front ++ (pairs rest ++ row)) =
    IsPermutation-append_right (pairs front) (row ++ pairs rest) (pairs rest ++ row) (IsPermutation-append_comm row (pairs rest)) in
    let one_side : IsPermutation (pairs (front ++ rest) ++ row) (all rows ++ row) = IsPermutation-append_left row (pairs (front ++ rest)) (all rows) same in
    let middle : IsPermutation (pairs front ++ (row ++ pairs rest)) (pairs (front ++ rest) ++ row) =
    subst (IsPermutation (pairs front ++ (row ++ pairs rest))) moved swapped in
    let ends : IsPermutation (pairs front ++ (row ++ pairs rest)) (all (rows ++ row ∷ [])) =
    subst (IsPermutation (pairs front ++ (row ++ pairs rest))) to (IsPermutation-trans _ (pairs (front ++ rest) ++ row) _ middle one_side) in
    subst (λ (l : List (ℕ × ℕ)). IsPermutation l (all (rows ++ row ∷ []))) (sym from) ends

more_in_order : (n : ℕ) (front rest : List Task) (row : List (ℕ × ℕ)) → InOrder n (front ++ rest) → InOrder (suc n) (front ++ (n, row) ∷ rest)
more_in_order n front rest row h = record {
  rows = h.rows ++ row ∷ [];
  as_many = length-append h.rows (row ∷ []) ∙ ap (λ k. k + 1) h.as_many ∙ add-one n;
  found = λ k r is. elim (get_push h.rows row k r is) [
    | inl before ↦ other_contains front rest (n, row) (k, r) (h.found k r before)
    | inr last ↦
        let at : k ≡ n = last.0 ∙ h.as_many in
        let same : (n, row) ≡ (k, r) = ap (λ m. (m, row)) (sym at) ∙ ap (λ (q : List (ℕ × ℕ)). (k, q)) last.1 in
        subst (Contains (front ++ (n, row) ∷ rest)) same (here_contains front rest (n, row))
  ];
  same = pairs_move front rest n row h.rows h.same;
}

last_once : (n : ℕ) → 0 < once_below (suc n) n
last_once n = grind (arith, nat_tests)

pub in_order : (count : ℕ) (tasks : List Task) → AreNumbersBelow count (numbers_of tasks) → InOrder count tasks
in_order zero tasks all = subst (InOrder 0) (sym (no_task tasks all)) (record {
  rows = [];
  as_many = refl;
  found = λ k row is. absurd (none-some _ is);
  same = IsPermutation-refl [];
})
in_order (suc n) tasks all =
    let parts = find n tasks (omega (arith, all n, last_once n)) in
    let known = subst (λ (ts : List Task). AreNumbersBelow (suc n) (numbers_of ts)) parts.is all in
    subst (InOrder (suc n)) (sym parts.is)
    (more_in_order n parts.front parts.rest parts.row (in_order n (parts.front ++ parts.rest) (fewer n parts.front parts.rest parts.row known)))
