-- A seat at the table that takes over those of the board's seats, one after another.
use Rattle.std.proofs.Common.{◌≡◌, ℕ, ◌+◌, ◌-◌, ◌<◌, cond, List, [], ◌∷◌, ◌++◌, map, length, take, drop, get_or, flat_map, count_by, sym, ap, ◌∙◌, arith}
use Rattle.std.proofs.Common.{length-append, length-take, get_or-drop, le_refl}
use Rattle.std.proofs.lemmas.List.{flat_map_more, get_or-append_right, length-map}
use Rattle.std.proofs.lemmas.List.Sums.{sum_by_push}
use Rattle.atomic_table.specs.declared.shared.Seat.{Seat}
use Rattle.deliver_core.specs.declared.board.rule.SeatView.{SeatView}
use Rattle.deliver_core.specs.BoardRule.{seat_view}
use Rattle.deliver_core.specs.Boards.{BoardValue, SeatValue, board_of, IsCounted}

-- it is the board's, and has the seats of the list, what they drew, in their order, and the draws of theirs beyond the tasks
pub record IsGathered (b : BoardValue) (xs : List SeatValue) (all : Seat (Unit {0}) SeatView) : Type 0 where
  pub board : board_of all ≡ b
  pub slots : all.me.1 ≡ []
  pub parts : all.me.0.parts ≡ length xs
  pub drawn : all.me.0.drawn ≡ flat_map (λ (s : SeatValue). s.drawn) xs
  pub over : all.me.0.over ≡ count_by (λ (s : SeatValue). s.done) xs

-- the count of a seat is how many numbers it has drawn
abbrev pub IsCountRight : SeatValue → Type 0
IsCountRight s = s.count ≡ length s.drawn

-- one more
pub gathers_more : (b : BoardValue) (xs : List SeatValue) (all all' : Seat (Unit {0}) SeatView) (s : SeatValue) (count : ℕ)
    (place : Seat (Unit {0}) SeatView) → IsGathered b xs all
    → IsCounted place count s.done → place.me.0.drawn ≡ s.drawn
    → all'.table_id ≡ all.table_id
    → all'.me ≡ (
      seat_view all.me.0.tasks all.me.0.seats (all.me.0.parts + place.me.0.parts) (all.me.0.drawn ++ place.me.0.drawn)
          (all.me.0.over + place.me.0.over),
      all.me.1,
    )
    → IsGathered b (xs ++ s ∷ []) all'
gathers_more b xs all all' s count place g counted drawn same now =
    let parts : all'.me.0.parts ≡ all.me.0.parts + place.me.0.parts = ap (λ m. m.0.parts) now in
    let over : all'.me.0.over ≡ all.me.0.over + place.me.0.over = ap (λ m. m.0.over) now in
    let parts_were = g.parts in
    let one = counted.one in record {
      board = (λ i. record { id = same i; tasks = (now i).0.tasks; seats = (now i).0.seats }) ∙ g.board;
      slots = ap (λ m. m.1) now ∙ g.slots;
      parts = omega (arith, length-append xs (s ∷ []));
      drawn = ap (λ m. m.0.drawn) now ∙ ((λ i. g.drawn i ++ drawn i) ∙ flat_map_more (λ (x : SeatValue). x.drawn) [] xs s);
      over = over ∙ ((λ i. g.over i + counted.over_is i) ∙ sym (sum_by_push (λ (x : SeatValue). cond x.done 1 0) xs s));
    }

-- the part of a list that a loop which rewrites it in place hasn't reached is unchanged
pub untouched : {X : Type 0} (f : X → X) (xs ys : List X) (i : ℕ) (d : X) → i < length xs → ys ≡ map f (take i xs) ++ drop i xs → get_or ys i d ≡ get_or xs i d
untouched f xs ys i d h is =
    let front : length (map f (take i xs)) ≡ i = omega (arith, length-map (take i xs) f, length-take i xs) in
    ap (λ l. get_or l i d) is ∙ (get_or-append_right (map f (take i xs)) (drop i xs) i i d front (le_refl i)
    ∙ (get_or-drop i xs (i - i) d ∙ ap (λ k. get_or xs k d) (omega arith)))
