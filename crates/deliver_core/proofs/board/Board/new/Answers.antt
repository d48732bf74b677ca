use Rattle.std.proofs.Common.{◌≡◌, ℕ, ◌+◌, ◌-◌, ◌<◌, [], replicate, refl, sym, ap, ◌∙◌, arith}
use Rattle.deliver_core.specs.declared.board.rule.SeatView.{SeatView}
use Rattle.deliver_core.specs.declared.board.rule.Size.{Size}
use Rattle.deliver_core.specs.Boards.{fresh_seat}
use Rattle.deliver_core.specs.BoardRule.{seat_view}
use Rattle.deliver_core.proofs.BoardClaims.{fresh_more, fresh_is}
use Rattle.deliver_core.proofs.BoardMoves.{opens, splits}
use Rattle.deliver_core.proofs.board.Board.new.Goals as goal

pub of_words-requires : goal.of_words-requires
of_words-requires c = opens (record { tasks = c.args.tasks; seats = c.args.seats })

pub loop-init : goal.loop-init
loop-init c =
    let made = c.in_ok-table.ensures in
    let given = c.in_ok-given.ensures in
    let all : c.args.seats ≡ c.args.seats + 1 - 1 = omega arith in
    record {
      place = made.2;
      slots = ap (λ m. m.1) made.4;
      view = ap (λ m. m.0) made.4 ∙ ap (λ n. seat_view c.args.tasks c.args.seats n [] 0) all;
      given = given.items;
      count = omega (arith, given.len);
      room = omega (arith, given.capacity);
    }

pub split_seat-place-requires : goal.split_seat-place-requires
split_seat-place-requires c =
    let first = c.loop.invariant in
    let made = c.in_ok-table.ensures in
    let parts = ap (λ (v : SeatView). v.parts) first.view in
    let several : 1 < c.loop.first.me.0.parts = omega arith in (
      first.place,
      omega arith,
      splits c.in_ok-table.table.shared.key c.loop.first.id c.loop.first.me.0 several (ap (λ (v : SeatView). v.drawn) first.view)
          (ap (λ (v : SeatView). v.over) first.view),
    )

pub loop-preserved : goal.loop-preserved
loop-preserved c =
    let before = c.loop.invariant in
    let split = c.split_seat-place.ensures in
    let fewer : c.args.seats + 1 - c.loop.counter - 1 ≡ c.args.seats + 1 - (c.loop.counter + 1) = omega arith in
    let place = c.split_seat-place.result in
    let fresh = fresh_is place c.in_ok-table.table.shared.table_id c.args.tasks c.args.seats (split.3 ∙ before.place)
    (ap (λ m. m.0.tasks) split.4 ∙ ap (λ (v : SeatView). v.tasks) before.view)
    (ap (λ m. m.0.seats) split.4 ∙ ap (λ (v : SeatView). v.seats) before.view) in
    record {
      place = split.0 ∙ before.place;
      slots = ap (λ m. m.1) split.2 ∙ before.slots;
      view = ap (λ m. m.0) split.2 ∙ ap (λ (v : SeatView). seat_view v.tasks v.seats (v.parts - 1) v.drawn v.over) before.view
          ∙ ap (λ n. seat_view c.args.tasks c.args.seats n [] 0) fewer;
      given = fresh_more c.loop.given.items c.push_reserved.new.self.items c.loop.counter _ _ (omega (arith, c.loop.auto.counter)) before.given
          c.push_reserved.ensures.items (c.fresh.ensures ∙ fresh);
      count = omega (arith, before.count, c.push_reserved.ensures.len);
      room = omega (arith, before.room, c.push_reserved.ensures.capacity);
    }

pub returns-clause-board : goal.returns-clause-board
returns-clause-board c = (refl, ap (λ (k : Size). k.seats) c.in_ok-table.ensures.5)

pub returns-clause-seats : goal.returns-clause-seats
returns-clause-seats c =
    let before = c.loop.invariant in
    let id = c.in_ok-table.table.shared.table_id in
    let known = ap (λ (k : Size). k.seats) c.in_ok-table.ensures.5 in
    let seat = λ (n : ℕ). fresh_seat (record { id = id; tasks = c.args.tasks; seats = n }) in
    let last = fresh_is c.loop.first id c.args.tasks c.args.seats before.place (ap (λ (v : SeatView). v.tasks) before.view)
    (ap (λ (v : SeatView). v.seats) before.view) in
    let all : c.loop.counter + 1 - 1 ≡ c.args.seats = omega (arith, c.loop.auto.counter-end, c.requires.0, c.loop-test.false) in
    fresh_more c.loop.given.items c.push_reserved-2.new.self.items c.loop.counter _ (seat c.args.seats) (omega (arith, c.loop.auto.counter)) before.given
    c.push_reserved-2.ensures.items (c.fresh-2.ensures ∙ last)
    ∙ ap (λ n. replicate n (seat c.args.seats)) all ∙ ap (λ n. replicate c.args.seats (seat n)) (sym known)
