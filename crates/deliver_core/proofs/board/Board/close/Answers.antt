use Rattle.std.proofs.Common.{◌≡◌, ◌<◌, List, [], ◌∷◌, ◌++◌, set, slice_index, length, take, min, All, Option, Some, IsSome, refl, sym, ap, ◌∙◌, subst, arith}
use Rattle.std.proofs.Common.{length-take}
use Rattle.std.proofs.lemmas.List.{take_more, take_all}
use Rattle.std.proofs.lemmas.List.Elements.{All-push}
use Rattle.std.proofs.lemmas.List.Edits.{map_over_more}
use Rattle.deliver_core.specs.Draws.{AreNumbersBelow}
use Rattle.deliver_core.specs.Boards.{BoardValue, SeatValue, board_of, spent_seat}
use Rattle.deliver_core.proofs.BoardMoves.{joins, all_drawn, end_passed}
use Rattle.deliver_core.proofs.BoardClosing.{IsGathered, IsCountRight, gathers_more, untouched}
use Rattle.deliver_core.proofs.BoardTallies.{some_done}
use Rattle.deliver_core.proofs.board.Board.close.Goals as goal

pub retire-place-requires : goal.retire-place-requires
retire-place-requires c =
    let len = c.args.seats.ok.0 in
    let end = c.len-count.ensures in
    let inside : c.loop-i.i < length c.args.seats.items = omega arith in
    let same = c.index_mut-in-loop-i.ensures.value
    ∙ untouched spent_seat c.args.seats.items c.loop-i.seats.items c.loop-i.i c.index_mut-in-loop-i.result.now inside c.loop-i.invariant.spent in
    let there : c.index_mut-in-loop-i.result.now.board ≡ Some c.args.self = ap (λ (s : SeatValue). s.board) same
    ∙ c.requires.own c.loop-i.i c.index_mut-in-loop-i.result.now inside in
    subst (λ (o : Option BoardValue). IsSome o) (sym there) refl

pub join_seat-requires : goal.join_seat-requires
join_seat-requires c =
    let len = c.args.seats.ok.0 in
    let end = c.len-count.ensures in
    let inside : c.loop-i.i < length c.args.seats.items = omega arith in
    let same = c.index_mut-in-loop-i.ensures.value
    ∙ untouched spent_seat c.args.seats.items c.loop-i.seats.items c.loop-i.i c.index_mut-in-loop-i.result.now inside c.loop-i.invariant.spent in
    let g = c.loop-i.invariant.gathered in
    let r = c.retire-place.ensures in
    let words = c.self.invariant.words in
    let one = r.counted.one in
    let parts = g.parts in
    let there : c.index_mut-in-loop-i.result.now.board ≡ Some c.args.self = ap (λ (s : SeatValue). s.board) same
    ∙ c.requires.own c.loop-i.i c.index_mut-in-loop-i.result.now inside in
    let boards : Some (board_of c.retire-place.result) ≡ Some c.args.self = sym r.board ∙ there in
    let theirs : board_of c.retire-place.result ≡ c.args.self = cc in (
      ap (λ (b : BoardValue). b.id) (g.board ∙ sym c.self.view_is),
      ap (λ (b : BoardValue). b.id) (theirs ∙ sym c.self.view_is),
      r.counted.slots,
      omega arith,
      joins c.self.inside.table.shared.key c.loop-i.all.id c.loop-i.all.me.0 c.retire-place.result.id c.retire-place.result.me.0
          (omega (arith, length-take c.loop-i.i c.args.seats.items)) (omega arith),
    )

pub loop-i-preserved : goal.loop-i-preserved
loop-i-preserved c =
    let len = c.args.seats.ok.0 in
    let end = c.len-count.ensures in
    let inside : c.loop-i.i < length c.args.seats.items = omega arith in
    let same = c.index_mut-in-loop-i.ensures.value
    ∙ untouched spent_seat c.args.seats.items c.loop-i.seats.items c.loop-i.i c.index_mut-in-loop-i.result.now inside c.loop-i.invariant.spent in
    let i = c.loop-i.invariant in
    let r = c.retire-place.ensures in
    let xs = c.args.seats.items in
    let x = c.index_mut-in-loop-i.result.now in
    let more = take_more xs c.loop-i.i x inside ∙ ap (λ (s : SeatValue). take c.loop-i.i xs ++ s ∷ []) (sym same) in
    record {
      spent = ap (λ (s : SeatValue). set c.loop-i.seats.items c.loop-i.i s) r.spent
          ∙ map_over_more spent_seat xs c.loop-i.seats.items c.loop-i.i x inside i.spent c.index_mut-in-loop-i.ensures.value;
      counted = subst (All IsCountRight) (sym more) (All-push IsCountRight (take c.loop-i.i xs) x i.counted (r.counted.count_is ∙ ap length r.drawn));
      gathered = subst (λ (l : List SeatValue). IsGathered c.args.self l c.join_seat.new.seat) (sym more)
          (gathers_more c.args.self (take c.loop-i.i xs) c.loop-i.all c.join_seat.new.seat x _ c.retire-place.result i.gathered r.counted r.drawn
          c.join_seat.ensures.0 c.join_seat.ensures.2);
    }

pub returns-clause-numbers : goal.returns-clause-numbers
returns-clause-numbers c =
    let xs = c.args.seats.items in
    let end = c.len-count.ensures in
    let len = c.args.seats.ok.0 in
    let stop = c.loop-i-test.false in
    let whole : take c.loop-i.i xs ≡ xs = take_all c.loop-i.i xs (omega arith) in
    let g = subst (λ (l : List SeatValue). IsGathered c.args.self l c.loop-i.all) whole c.loop-i.invariant.gathered in
    let final = c.close_with-closed.ensures.values.2 in
    let key = c.self.inside.table.shared.key in
    let word = slice_index final.0.words 0 in
    let all : c.loop-i.all.me.0.parts ≡ key.seats = g.parts ∙ (c.requires.all ∙ ap (λ (b : BoardValue). b.seats) (sym c.self.view_is)) in
    let tasks : key.tasks ≡ c.args.self.tasks = sym c.self.invariant.tasks_are ∙ ap (λ (b : BoardValue). b.tasks) c.self.view_is in
    let ruled = final.1.0.1 in
    let view = final.1.1 in (
      min word key.tasks,
      omega arith,
      subst (AreNumbersBelow (min word key.tasks)) g.drawn (all_drawn key word final.0.views ruled c.loop-i.all.id c.loop-i.all.me.0 view all),
      (λ some. let over = g.over in end_passed key word final.0.views ruled c.loop-i.all.id c.loop-i.all.me.0 view all
          (omega (arith, some_done (λ (s : SeatValue). s.done) xs some)) ∙ tasks),
    )

pub returns-clause-counted : goal.returns-clause-counted
returns-clause-counted c =
    let end = c.len-count.ensures in
    let len = c.args.seats.ok.0 in
    let stop = c.loop-i-test.false in
    subst (All IsCountRight) (take_all c.loop-i.i c.args.seats.items (omega arith)) c.loop-i.invariant.counted
