-- Which numbers occur among the owned tasks, if these are the tasks that seats drew.
use Rattle.std.proofs.Common.{◌≡◌, ℕ, ◌≤◌, List, [], ◌∷◌, ◌++◌, map, flat_map, sum_by, refl, sym, ap, ◌∙◌, arith}
use Rattle.std.specs.List.{AllZip}
use Rattle.std.proofs.lemmas.Bool.Decides.{nat_tests}
use Rattle.std.proofs.lemmas.List.{map-append}
use Rattle.std.proofs.lemmas.List.Sums.{sum_by-cons}
use mathlib.Core.List.{IsPrefix}
use Rattle.deliver_core.specs.Draws.{times, once_below, AreNumbersBelow, AreSomeBelow}
use Rattle.deliver_core.specs.Owners.{Owners, owned_numbers}
use Rattle.deliver_core.specs.Scripts.{Task}
use Rattle.deliver_core.proofs.Interleavings.{joined}
use Rattle.deliver_core.proofs.BoardTallies.{times-append, times-flat_map}

-- the numbers of the tasks of one port
abbrev pub numbers_of : List Task → List ℕ
numbers_of tasks = map (λ (task : Task). task.0) tasks

numbers_of-joined : (owned : List (List Task)) → numbers_of (joined owned) ≡ flat_map numbers_of owned
numbers_of-joined [] = refl
numbers_of-joined (tasks ∷ owned) =
    map-append (λ (task : Task). task.0) tasks (joined owned)
    ∙ ap (λ rest. numbers_of tasks ++ rest) (numbers_of-joined owned)

-- a number occurs among them as often as in the lists of all ports together, in any order of these
pub times-owned : (x : ℕ) (o : Owners) → times x (owned_numbers o) ≡ sum_by (λ (tasks : List Task). times x (numbers_of tasks)) o.owned
times-owned x o = ap (times x) (numbers_of-joined o.owned) ∙ times-flat_map x numbers_of o.owned

-- each port owns the first of the tasks that its seat drew
abbrev pub FirstDrawn : {X : Type 0} → (X → List ℕ) → List (List Task) → List X → Type 0
FirstDrawn drawn owned seats = AllZip (λ tasks seat. IsPrefix (numbers_of tasks) (drawn seat)) owned seats

-- it owns all of them
abbrev pub AllDrawn : {X : Type 0} → (X → List ℕ) → List (List Task) → List X → Type 0
AllDrawn drawn owned seats = AllZip (λ tasks seat. numbers_of tasks ≡ drawn seat) owned seats

times-first : {X : Type 0} (x : ℕ) (drawn : X → List ℕ) (owned : List (List Task)) (seats : List X) → FirstDrawn drawn owned seats
    → sum_by (λ (tasks : List Task). times x (numbers_of tasks)) owned ≤ sum_by (λ seat. times x (drawn seat)) seats
times-first x drawn [] [] first = omega arith
times-first x drawn [] (seat ∷ seats) first = absurd first
times-first x drawn (tasks ∷ owned) [] first = absurd first
times-first x drawn (tasks ∷ owned) (seat ∷ seats) first =
    let rest = times-first x drawn owned seats first.1 in
    let part = times-append x (numbers_of tasks) first.0.0 in
    let whole : times x (numbers_of tasks ++ first.0.0) ≡ times x (drawn seat) = ap (times x) first.0.1 in
    omega (
      arith,
      rest,
      part,
      whole,
      sum_by-cons (λ (ts : List Task). times x (numbers_of ts)) tasks owned,
      sum_by-cons (λ s. times x (drawn s)) seat seats,
    )

times-all : {X : Type 0} (x : ℕ) (drawn : X → List ℕ) (owned : List (List Task)) (seats : List X) → AllDrawn drawn owned seats
    → sum_by (λ (tasks : List Task). times x (numbers_of tasks)) owned ≡ sum_by (λ seat. times x (drawn seat)) seats
times-all x drawn [] [] all = refl
times-all x drawn [] (seat ∷ seats) all = absurd all
times-all x drawn (tasks ∷ owned) [] all = absurd all
times-all x drawn (tasks ∷ owned) (seat ∷ seats) all =
    let rest = times-all x drawn owned seats all.1 in
    let whole : times x (numbers_of tasks) ≡ times x (drawn seat) = ap (times x) all.0 in
    omega (
      arith,
      rest,
      whole,
      sum_by-cons (λ (ts : List Task). times x (numbers_of ts)) tasks owned,
      sum_by-cons (λ s. times x (drawn s)) seat seats,
    )

once_below-more : (n tasks x : ℕ) → n ≤ tasks → once_below n x ≤ once_below tasks x
once_below-more n tasks x le = grind (arith, nat_tests)

-- if the seats together drew the numbers less than some n, each once
pub AreSomeBelow-drawn : {X : Type 0} (drawn : X → List ℕ) (seats : List X) (n : ℕ) (o : Owners) → n ≤ o.tasks
    → AreNumbersBelow n (flat_map drawn seats) → FirstDrawn drawn o.owned seats → AreSomeBelow o.tasks (owned_numbers o)
AreSomeBelow-drawn drawn seats n o le numbers first x =
    let part = times-first x drawn o.owned seats first in
    omega (arith, times-owned x o, part, times-flat_map x drawn seats, numbers x, once_below-more n o.tasks x le)

pub AreNumbersBelow-drawn : {X : Type 0} (drawn : X → List ℕ) (seats : List X) (n : ℕ) (o : Owners)
    → AreNumbersBelow n (flat_map drawn seats) → AllDrawn drawn o.owned seats → AreNumbersBelow n (owned_numbers o)
AreNumbersBelow-drawn drawn seats n o numbers all x =
    times-owned x o ∙ times-all x drawn o.owned seats all ∙ sym (times-flat_map x drawn seats) ∙ numbers x
