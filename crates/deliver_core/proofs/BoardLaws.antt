-- The laws of the board hold for a new one, and every draw preserves them.
use Rattle.std.proofs.Common.{◌≡◌, ℕ, zero, suc, ◌+◌, ◌*◌, ◌<◌, ◌≤◌, min, Bool, true, false, cond, List, [], ◌∷◌, length, set, fold, sum_by, count_by, flat_map}
use Rattle.std.proofs.Common.{All, Any, Option, Some, None, slice_get, refl, sym, ap, ◌∙◌, subst, arith, length-set, ⊎_elim}
use Rattle.std.specs.Option.{option_map_or}
use Rattle.std.specs.List.Sorted.{IsStrictlyIncreasing}
use Rattle.std.proofs.lemmas.Bool.{cases_lt}
use Rattle.std.proofs.lemmas.Bool.Decides.{nat_tests}
use Rattle.std.proofs.lemmas.List.{length-replicate}
use Rattle.std.proofs.lemmas.List.Elements.{All-set, All-replicate, All-head, All-tail}
use Rattle.std.proofs.lemmas.List.Folds.{sum_by-replicate}
use Rattle.std.proofs.lemmas.List.Sums.{count_by-le-length}
use mathlib.Core.Option.{some, some-injective, some-ne-none}
use lib.ListN.{get_elem?}
use Rattle.deliver_core.specs.Draws.{SeatState, BoardState, opened, seat_after, drawn_by, after_draw, times, once_below, AreNumbersBelow, Tally}
use Rattle.deliver_core.proofs.BoardTallies.{tally_draws, tally_ends, tally_below, times-flat_map, some_done}
use Rattle.deliver_core.proofs.BoardClaims.{seat_number, seat_end}
use Rattle.deliver_core.proofs.BoardMoves.{increasing_push}

pub record IsLawful (tasks seats : ℕ) (b : BoardState) : Type 0 where
  pub tally : Tally (λ (h : SeatState). h.drawn) (λ (h : SeatState). cond h.done 1 0) tasks b.word b.seats
  pub rising : All (λ (h : SeatState). IsStrictlyIncreasing h.drawn) b.seats
  pub count : length b.seats ≡ seats

at_place : (hs : List SeatState) (i : ℕ) (h : SeatState) → slice_get hs i ≡ Some h → get_elem? hs i ≡ some h
at_place [] i h e = absurd cc
at_place (x ∷ hs) zero h e = let same : x ≡ h = cc in ap some same
at_place (x ∷ hs) (suc i) h e = at_place hs i h e

-- a fact of each holder is a fact of the one at an index
All_at : (hs : List SeatState) (i : ℕ) (h : SeatState) → get_elem? hs i ≡ some h → All (λ (g : SeatState). IsStrictlyIncreasing g.drawn) hs
    → IsStrictlyIncreasing h.drawn
All_at [] i h at all = absurd (some-ne-none h (sym at))
All_at (x ∷ hs) zero h at all =
    subst (λ (g : SeatState). IsStrictlyIncreasing g.drawn) (some-injective x h at) (All-head (λ (g : SeatState). IsStrictlyIncreasing g.drawn) x hs all)
All_at (x ∷ hs) (suc i) h at all = All_at hs i h at (All-tail (λ (g : SeatState). IsStrictlyIncreasing g.drawn) x hs all)

pub lawful_new : (tasks seats : ℕ) → IsLawful tasks seats (opened seats)
lawful_new tasks seats =
    let none : SeatState = record { drawn = []; done = false } in
    let m : min 0 tasks ≡ 0 = omega arith in record {
      tally = record {
        numbers = λ x. sum_by-replicate (λ (h : SeatState). times x h.drawn) seats none
            ∙ (zero_times seats ∙ sym (ap (λ n. once_below n x) m ∙ once_below_zero x));
        lengths = sum_by-replicate (λ (h : SeatState). length h.drawn) seats none ∙ (zero_times seats ∙ sym m);
        word_is = let overs = sum_by-replicate (λ (h : SeatState). cond h.done 1 0) seats none ∙ zero_times seats in omega arith;
      };
      rising = All-replicate (λ (h : SeatState). IsStrictlyIncreasing h.drawn) seats none (λ k h. absurd (omega arith));
      count = length-replicate seats none;
    }
  where
    zero_times : (n : ℕ) → n * 0 ≡ 0
    zero_times n = omega arith

    once_below_zero : (x : ℕ) → once_below 0 x ≡ 0
    once_below_zero x = grind (arith, nat_tests)

pub lawful_draw : (tasks seats : ℕ) (b : BoardState) (place : ℕ) → IsLawful tasks seats b → IsLawful tasks seats (after_draw tasks b place)
lawful_draw tasks seats b place l = at_seat (slice_get b.seats place) refl
  where
    rises : (h : SeatState) → get_elem? b.seats place ≡ some h → IsStrictlyIncreasing h.drawn
    rises h at = All_at b.seats place h at l.rising

    after : SeatState → BoardState
    after w = record { word = b.word + 1; seats = set b.seats place w }

    number : (h : SeatState) → get_elem? b.seats place ≡ some h → b.word < tasks → IsLawful tasks seats (after (seat_after tasks b.word h))
    number h at below =
        let w = seat_after tasks b.word h in
        let is = seat_number tasks b.word h below in
        let drawn = ap (λ (g : SeatState). g.drawn) is in
        let all = tally_below (λ (g : SeatState). g.drawn) (λ (g : SeatState). cond g.done 1 0) tasks b.word b.seats l.tally place h at in record {
          tally = tally_draws (λ (g : SeatState). g.drawn) (λ (g : SeatState). cond g.done 1 0) tasks b.word b.seats l.tally place h w at below drawn
              (ap (λ (g : SeatState). cond {A = ℕ} g.done 1 0) is);
          rising = All-set (λ (g : SeatState). IsStrictlyIncreasing g.drawn) b.seats place w
              (subst IsStrictlyIncreasing (sym drawn) (increasing_push h.drawn b.word (rises h at) all)) l.rising;
          count = length-set b.seats place w ∙ l.count;
        }

    past : (h : SeatState) → get_elem? b.seats place ≡ some h → h.done ≡ false → tasks ≤ b.word → IsLawful tasks seats (after (seat_after tasks b.word h))
    past h at still past_all =
        let w = seat_after tasks b.word h in
        let is = seat_end tasks b.word h past_all in
        let drawn = ap (λ (g : SeatState). g.drawn) is in
        let over = ap (λ (g : SeatState). cond {A = ℕ} g.done 1 0) is in
        let before = ap (λ (d : Bool). cond {A = ℕ} d 1 0) still in record {
          tally = tally_ends (λ (g : SeatState). g.drawn) (λ (g : SeatState). cond g.done 1 0) tasks b.word b.seats l.tally place h w at past_all drawn
              (omega arith);
          rising = All-set (λ (g : SeatState). IsStrictlyIncreasing g.drawn) b.seats place w (subst IsStrictlyIncreasing (sym drawn) (rises h at)) l.rising;
          count = length-set b.seats place w ∙ l.count;
        }

    of_state : (h : SeatState) → get_elem? b.seats place ≡ some h → (d : Bool) → h.done ≡ d
        → IsLawful tasks seats (cond d b (record { word = b.word + 1; seats = set b.seats place (seat_after tasks b.word h) }))
    of_state h at true is = l
    of_state h at false is = ⊎_elim (number h at) (past h at is) (cases_lt b.word tasks)

    at_seat : (o : Option SeatState) → slice_get b.seats place ≡ o → IsLawful tasks seats (option_map_or (drawn_by tasks b place) o b)
    at_seat None is = l
    at_seat (Some h) is = of_state h (at_place b.seats place h is) h.done refl

pub lawful : (tasks seats : ℕ) (events : List ℕ) (b : BoardState) → IsLawful tasks seats b → IsLawful tasks seats (fold (after_draw tasks) b events)
lawful tasks seats [] b l = l
lawful tasks seats (e ∷ events) b l = lawful tasks seats events (after_draw tasks b e) (lawful_draw tasks seats b e l)

-- the laws for a lawful board
module _ (tasks seats : ℕ) (b : BoardState) (l : IsLawful tasks seats b) where
  pub law_numbers : AreNumbersBelow (min b.word tasks) (flat_map (λ (h : SeatState). h.drawn) b.seats)
  law_numbers x = times-flat_map x (λ (h : SeatState). h.drawn) b.seats ∙ l.tally.numbers x

  pub law_word : b.word ≡ sum_by (λ (h : SeatState). length h.drawn) b.seats + count_by (λ (h : SeatState). h.done) b.seats
  law_word = l.tally.word_is ∙ ap (λ n. n + count_by (λ (h : SeatState). h.done) b.seats) (sym l.tally.lengths)

  pub law_passed : Any (λ (h : SeatState). h.done ≡ true) b.seats → tasks < b.word
  law_passed any =
      let is = l.tally.word_is in
      let above = some_done (λ (h : SeatState). h.done) b.seats any in
      omega arith

  pub law_bound : b.word ≤ tasks + seats
  law_bound =
      let is = l.tally.word_is in
      let few = count_by-le-length (λ (h : SeatState). h.done) b.seats in
      let count = l.count in
      omega arith
