-- The effect of a draw on a seat that counts its draws.
use Rattle.std.proofs.Common.{◌≡◌, ℕ, ◌+◌, ◌-◌, ◌<◌, ◌≤◌, Bool, true, false, List, [], ◌∷◌, ◌++◌, length, replicate, All, refl, sym, ap, ◌∙◌, subst, arith, length-append}
use Rattle.std.proofs.Common.{Option, Some}
use Rattle.std.proofs.lemmas.Bool.{MatchBool-at_true, MatchBool-at_false, lt-ltb, le-ltb}
use Rattle.std.proofs.lemmas.List.{replicate_more}
use mathlib.Core.Option.{none}
use Rattle.atomic_table.specs.Seated.{TableId}
use Rattle.atomic_table.specs.Table.{step}
use Rattle.atomic_table.specs.declared.shared.Seat.{Seat}
use Rattle.deliver_core.specs.declared.board.rule.SeatView.{SeatView}
use Rattle.deliver_core.specs.Draws.{SeatState, seat_after}
use Rattle.deliver_core.specs.BoardRule.{seat_view, Drew}
use Rattle.deliver_core.specs.Boards.{BoardValue, SeatValue, board_of, fresh_seat, seat_value, state_of, IsCounted, IsCountedSeat, IsDrawOf}

abbrev Place : Type 0
Place = Seat (Unit {0}) SeatView

-- a seat that was just made, and a list of such seats with one more
pub fresh_is : (place : Place) (id : TableId) (tasks seats : ℕ) → place.table_id ≡ id → place.me.0.tasks ≡ tasks → place.me.0.seats ≡ seats
    → fresh_seat (board_of place) ≡ fresh_seat (record { id = id; tasks = tasks; seats = seats })
fresh_is place id tasks seats of_table few many = rw (of_table, few, many) refl

pub fresh_more : {X : Type 0} (old new : List X) (n : ℕ) (x y : X) → 1 ≤ n → old ≡ replicate (n - 1) y → new ≡ old ++ x ∷ [] → x ≡ y
    → new ≡ replicate (n + 1 - 1) y
fresh_more old new n x y some are grown is =
    let next : n - 1 + 1 ≡ n + 1 - 1 = omega arith in
    grown ∙ ap (λ l. l ++ x ∷ []) are ∙ ap (λ z. replicate (n - 1) y ++ z ∷ []) is ∙ replicate_more (n - 1) y ∙ ap (λ k. replicate k y) next

-- the hand after a draw of a number, and after one of none
pub seat_number : (tasks word : ℕ) (h : SeatState) → word < tasks → seat_after tasks word h ≡ record { drawn = h.drawn ++ word ∷ []; done = h.done }
seat_number tasks word h below = rw (lt-ltb word tasks below) refl

pub seat_end : (tasks word : ℕ) (h : SeatState) → tasks ≤ word → seat_after tasks word h ≡ record { drawn = h.drawn; done = true }
seat_end tasks word h past = rw (le-ltb word tasks past) refl

-- the seat at the table of a seat that isn't spent: its board, what it has drawn, and that its draws are counted
module _ (p : Option Place) (count : ℕ) (done : Bool) (place : Place) (there : p ≡ Some place) where
  pub board_at : (s : SeatValue) (b : BoardValue) → seat_value p count done ≡ s → s.board ≡ Some b → board_of place ≡ b
  board_at s b is own =
      let same : Some (board_of place) ≡ Some b = sym (ap (λ (q : Option Place). (seat_value q count done).board) there)
      ∙ (ap (λ (t : SeatValue). t.board) is ∙ own) in cc

  pub drawn_at : (s : SeatValue) → seat_value p count done ≡ s → place.me.0.drawn ≡ s.drawn
  drawn_at s is = sym (ap (λ (q : Option Place). (seat_value q count done).drawn) there) ∙ ap (λ (t : SeatValue). t.drawn) is

  pub over_at : (s : SeatValue) → seat_value p count done ≡ s → place.me.0.over ≡ s.over
  over_at s is = sym (ap (λ (q : Option Place). (seat_value q count done).over) there) ∙ ap (λ (t : SeatValue). t.over) is

  pub done_at : (s : SeatValue) → seat_value p count done ≡ s → done ≡ s.done
  done_at s is = sym (ap (λ (q : Option Place). (seat_value q count done).done) there) ∙ ap (λ (t : SeatValue). t.done) is

  pub counted_at : (known : Bool) → done ≡ known → IsCountedSeat p count done → IsCounted place count known
  counted_at known is h = subst (λ (d : Bool). IsCounted place count d) is (subst (λ (q : Option Place). IsCountedSeat q count done) there h)

-- the state of a seat after a draw of a number, and after one of none
pub record NumberDrawn (old new : Place) (count word : ℕ) : Type 0 where
  pub counted : IsCounted new (count + 1) false
  pub board : board_of new ≡ board_of old
  pub drawn : new.me.0.drawn ≡ old.me.0.drawn ++ word ∷ []
  pub above : All (λ k. k < word) old.me.0.drawn
  pub few : count ≤ word

pub record EndMet (old new : Place) (count : ℕ) : Type 0 where
  pub counted : IsCounted new count true
  pub board : board_of new ≡ board_of old
  pub drawn : new.me.0.drawn ≡ old.me.0.drawn

module _ (old new : Place) (count word : ℕ) (counts : IsCounted old count false) (same : new.table_id ≡ old.table_id)
    (drew : Drew (step 0 0 1 0 none) old.me word new.me) where
  board_kept : (parts : ℕ) (drawn : List ℕ) (over : ℕ) → new.me.0 ≡ seat_view old.me.0.tasks old.me.0.seats parts drawn over → board_of new ≡ board_of old
  board_kept parts drawn over is = λ i. record { id = same i; tasks = (is i).tasks; seats = (is i).seats }

  pub number_drawn : word < old.me.0.tasks → NumberDrawn old new count word
  number_drawn below =
      let told = MatchBool-at_true _ _ (lt-ltb _ _ below) drew.2 in
      let drawn : new.me.0.drawn ≡ old.me.0.drawn ++ word ∷ [] = ap (λ (v : SeatView). v.drawn) told.2 in
      let was = counts.count_is in
      let few = told.1 in record {
        counted = record {
          one = ap (λ (v : SeatView). v.parts) told.2 ∙ counts.one;
          slots = drew.1 ∙ counts.slots;
          count_is = sym (ap length drawn ∙ (length-append old.me.0.drawn (word ∷ []) ∙ ap (λ n. n + 1) (sym was)));
          over_is = ap (λ (v : SeatView). v.over) told.2 ∙ counts.over_is;
        };
        board = board_kept _ _ _ told.2;
        drawn = drawn;
        above = told.0;
        few = omega arith;
      }

  pub end_met : old.me.0.tasks ≤ word → EndMet old new count
  end_met past =
      let told = MatchBool-at_false _ _ (le-ltb _ _ past) drew.2 in
      let drawn : new.me.0.drawn ≡ old.me.0.drawn = ap (λ (v : SeatView). v.drawn) told in record {
        counted = record {
          one = ap (λ (v : SeatView). v.parts) told ∙ counts.one;
          slots = drew.1 ∙ counts.slots;
          count_is = counts.count_is ∙ ap length (sym drawn);
          over_is = ap (λ (v : SeatView). v.over) told ∙ ap (λ n. n + 1) counts.over_is;
        };
        board = board_kept _ _ _ told;
        drawn = drawn;
      }

-- a hand by its parts
same_state : {g h : SeatState} → g.drawn ≡ h.drawn → g.done ≡ h.done → g ≡ h
same_state drawn done = λ i. record { drawn = drawn i; done = done i }

-- a draw of a number, and one of none
module _ (b : BoardValue) (s t : SeatValue) (word : ℕ) (fits : word < b.tasks + b.seats) (none_yet : s.over ≡ 0) where
  pub draw_number : word < b.tasks → t.drawn ≡ s.drawn ++ word ∷ [] → t.done ≡ s.done → t.over ≡ 0 → IsDrawOf b s t word
  draw_number below drawn done over = record {
    below = fits;
    state = same_state drawn done ∙ sym (seat_number b.tasks word (state_of s) below);
    over = rw (lt-ltb word b.tasks below) (omega arith);
  }

  pub draw_end : b.tasks ≤ word → t.drawn ≡ s.drawn → t.done ≡ true → t.over ≡ 1 → IsDrawOf b s t word
  draw_end past drawn done over = record {
    below = fits;
    state = same_state drawn done ∙ sym (seat_end b.tasks word (state_of s) past);
    over = rw (le-ltb word b.tasks past) (omega arith);
  }
