-- The shares of all workers together: a row for each chunk, and so the refinement of the list.
use Rattle.std.proofs.Common.{◌≡◌, ℕ, zero, suc, ◌*◌, ◌<◌, ◌≤◌, inl, inr, Bool, true, cond, eqb, List, [], ◌∷◌, ◌++◌, Result, Ok, Err}
use Rattle.std.proofs.Common.{All, Contains, IsOk, IfOk, length, get_or, take, refl, sym, ap, ap₂, subst, arith, ◌∙◌, zero-mul, add-one}
use Rattle.std.specs.Prelude.{Any}
use Rattle.std.specs.Global.{Global}
use Rattle.std.specs.List.{flat_map}
use Rattle.std.specs.declared.alloc.AllocError.{AllocError}
use Rattle.std.specs.declared.vec.Vec.{Vec}
use Rattle.std.proofs.lemmas.Bool.Decides.{eqb_tells, nat_tests}
use Rattle.std.proofs.lemmas.List.{map-append, flat_map_more, take_all, take_more}
use Rattle.std.proofs.lemmas.List.Elements.{All-nil, All-cons, All-head, All-tail, All-append, All-contains, All-weaker}
use Rattle.std.proofs.lemmas.List.Sums.{sum_by-cons}
use Rattle.deliver_core.specs.Boards.{BoardValue, SeatValue, IsSeatOf}
use Rattle.deliver_core.specs.Draws.{AreNumbersBelow, times, once_below}
use Rattle.refine_core.specs.declared.refined.Refined.{Refined}
use Rattle.refine_core.specs.declared.worker.Part.{Part}
use Rattle.refine_core.specs.declared.worker.Share.{Share}
use Rattle.refine_core.specs.Chunks.{chunk_of, chunk_size}
use Rattle.refine_core.specs.Parts.{numbers_of, parts_in, seat_in, HasRow, IsPart, IsShare}
use Rattle.refine_core.specs.Refinements.{AreRefined, none}
use Rattle.refine_core.proofs.ChunkLemmas.{is_counted, next_chunk}
use Rattle.refine_core.proofs.RefinementLemmas.{refined_append}

-- a number that is counted in a list occurs in it
counted_contains : (x : ℕ) (xs : List ℕ) → 0 < times x xs → Contains xs x
counted_contains x [] some = absurd (omega arith)
counted_contains x (y ∷ ys) some =
    elim (eqb_tells y x) [
      | inl here ↦ (0, omega arith, here.1)
      | inr other ↦
          let none : cond {A = ℕ} (eqb y x) 1 0 ≡ 0 = ap (λ (b : Bool). cond {A = ℕ} b 1 0) other.0 in
          let later = counted_contains x ys (omega (arith, sum_by-cons (λ z. cond {A = ℕ} (eqb z x) 1 0) y ys, none)) in
          (suc later.0, omega (arith, later.1), later.2)
    ]

one_below : (n x : ℕ) → x < n → once_below n x ≡ 1
one_below n x below = grind (arith, nat_tests)

-- each number below that of the tasks was drawn
pub all_drawn : (n : ℕ) (xs : List ℕ) → AreNumbersBelow n xs → (x : ℕ) → x < n → Contains xs x
all_drawn n xs numbers x below = counted_contains x xs (omega (arith, numbers x, one_below n x below))

pub some_done : (seats : List SeatValue) → 0 < length seats → All (λ (s : SeatValue). s.done ≡ true) seats → Any (λ (s : SeatValue). s.done ≡ true) seats
some_done [] some all = absurd (omega arith)
some_done (s ∷ seats) some all = (0, s, omega arith, refl, All-head (λ (t : SeatValue). t.done ≡ true) s seats all)

module _ {A : Type 0} (stands : ℕ → ℕ → Type 0) (answers : ℕ → ℕ → A → Type 0) (pairs : List (ℕ × ℕ)) where
  module _ (board : BoardValue) where
    -- the seats and parts of all workers
    pub record IsGathered (seats : List SeatValue) (parts : List (Part A)) (count : ℕ) : Type 0 where
      pub as_many : length seats ≡ count
      pub own : All (IsSeatOf board) seats
      pub done : All (λ (s : SeatValue). s.done ≡ true) seats
      pub numbers : numbers_of parts ≡ flat_map (λ (s : SeatValue). s.drawn) seats
      pub each : All (IsPart stands answers pairs) parts

    abbrev IsGiven : Result (Share A) AllocError → Type 0
    IsGiven share = IfOk share (IsShare stands answers board pairs)

    gathered : (shares : List (Result (Share A) AllocError)) → All IsOk shares → All (λ share. IfOk share (IsShare stands answers board pairs)) shares
        → IsGathered (flat_map seat_in shares) (flat_map parts_in shares) (length shares)
    gathered [] oks all = record {
      as_many = refl;
      own = All-nil (IsSeatOf board);
      done = All-nil (λ (s : SeatValue). s.done ≡ true);
      numbers = refl;
      each = All-nil (IsPart stands answers pairs);
    }
    gathered (Ok share ∷ shares) oks all =
        let one = All-head IsGiven (Ok share) shares all in
        let rest = gathered shares (All-tail IsOk (Ok share) shares oks) (All-tail IsGiven (Ok share) shares all) in
        record {
          as_many = ap suc rest.as_many;
          own = All-cons (IsSeatOf board) share.seat (flat_map seat_in shares) one.seat rest.own;
          done = All-cons (λ (s : SeatValue). s.done ≡ true) share.seat (flat_map seat_in shares) one.done rest.done;
          numbers = map-append (λ (p : Part A). p.chunk) share.parts.items (flat_map parts_in shares)
              ∙ ap₂ (λ (a b : List ℕ). a ++ b) one.numbers rest.numbers;
          each = All-append (IsPart stands answers pairs) share.parts.items (flat_map parts_in shares) one.parts rest.each;
        }
    gathered (Err refused ∷ shares) oks all =
        let refuted = All-head IsOk (Err refused) shares oks in
        absurd cc

    pub all_gathered : (shares : List (Result (Share A) AllocError)) (seats : List SeatValue) (parts : List (Part A)) → All IsOk shares
        → All (λ share. IfOk share (IsShare stands answers board pairs)) shares → seats ≡ flat_map seat_in shares → parts ≡ flat_map parts_in shares
        → IsGathered seats parts (length shares)
    all_gathered shares seats parts oks all seats_are parts_are =
        subst (λ s. IsGathered s parts (length shares)) (sym seats_are)
        (subst (λ p. IsGathered (flat_map seat_in shares) p (length shares)) (sym parts_are) (gathered shares oks all))

    -- each chunk has a part, given the board's facts on its seats
    pub all_parted : (seats : List SeatValue) (parts : List (Part A)) (workers count : ℕ) → IsGathered seats parts workers → 0 < workers → board.tasks ≡ count
        → ((n : ℕ) × (n ≤ board.tasks) × AreNumbersBelow n (flat_map (λ (s : SeatValue). s.drawn) seats)
        × (Any (λ (s : SeatValue). s.done ≡ true) seats → n ≡ board.tasks))
        → (number : ℕ) → number < count → Contains (numbers_of parts) number
    all_parted seats parts workers count all some tasks closed number below =
        let is_all = closed.3 (some_done seats (omega (arith, all.as_many)) all.done) in
        subst (λ ns. Contains ns number) (sym all.numbers)
        (all_drawn closed.0 (flat_map (λ (s : SeatValue). s.drawn) seats) closed.2 number (omega (arith, is_all, tasks)))

  -- the chunks of parts are some of those that cover the list
  pub numbers_counted : (count : ℕ) (parts : List (Part A)) → length pairs ≤ count * chunk_size (length pairs) → All (IsPart stands answers pairs) parts
      → All (λ (p : Part A). p.chunk < count) parts
  numbers_counted count parts covered each =
      All-weaker (IsPart stands answers pairs) (λ (p : Part A). p.chunk < count)
      (λ p is. is_counted count p.chunk (length pairs) (chunk_size (length pairs)) is.number covered) parts each

  module _ (count : ℕ) (parts : List (Part A)) (rows : List (Vec (Refined A) Global)) (each : All (IsPart stands answers pairs) parts)
      (found : (number : ℕ) → number < count → HasRow parts rows number) where
    row_refined : (number : ℕ) (d : Vec (Refined A) Global) → number < count → AreRefined stands answers (chunk_of pairs number) (get_or rows number d).items
    row_refined number d below =
        let row = found number below in
        subst (λ (v : Vec (Refined A) Global). AreRefined stands answers (chunk_of pairs number) v.items) (sym (row.there d))
        (All-contains (IsPart stands answers pairs) parts (record { chunk = number; refined = row.row }) each row.of_part).refined

    -- the first rows
    so_far : (n : ℕ) → n ≤ count → length rows ≡ count
        → AreRefined stands answers (take (n * chunk_size (length pairs)) pairs) (flat_map (λ (v : Vec (Refined A) Global). v.items) (take n rows))
    so_far zero l same = subst (λ k. AreRefined stands answers (take k pairs) []) (sym (zero-mul (chunk_size (length pairs)))) none
    so_far (suc n) l same =
        let d = (found n (omega arith)).row in
        let items : Vec (Refined A) Global → List (Refined A) = λ v. v.items in
        let grown : flat_map items (take n rows) ++ (get_or rows n d).items ≡ flat_map items (take (suc n) rows) =
        flat_map_more items [] (take n rows) (get_or rows n d)
        ∙ ap (flat_map items) (sym (take_more rows n d (omega arith)) ∙ ap (λ k. take k rows) (add-one n)) in
        subst (λ ps. AreRefined stands answers ps (flat_map items (take (suc n) rows))) (next_chunk pairs (chunk_size (length pairs)) n)
        (subst (AreRefined stands answers (take (n * chunk_size (length pairs)) pairs ++ chunk_of pairs n)) grown
        (refined_append stands answers (so_far n (omega arith) same) (row_refined n d (omega arith))))

    pub rows_joined : length rows ≡ count → length pairs ≤ count * chunk_size (length pairs)
        → AreRefined stands answers pairs (flat_map (λ (v : Vec (Refined A) Global). v.items) rows)
    rows_joined same covered =
        subst (λ ps. AreRefined stands answers ps (flat_map (λ (v : Vec (Refined A) Global). v.items) rows))
        (take_all (count * chunk_size (length pairs)) pairs covered)
        (subst (λ rs. AreRefined stands answers (take (count * chunk_size (length pairs)) pairs) (flat_map (λ (v : Vec (Refined A) Global). v.items) rs))
        (take_all count rows (omega arith)) (so_far count (omega arith) same))
