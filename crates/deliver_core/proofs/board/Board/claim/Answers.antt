use Rattle.std.proofs.Common.{◌≡◌, ℕ, ◌+◌, ◌<◌, List, [], ◌∷◌, ◌++◌, All, Bool, false, sym, ap, ◌∙◌, subst, refl, arith}
use Rattle.deliver_core.specs.Boards.{BoardValue, size_of, IsCounted}
use Rattle.deliver_core.proofs.BoardMoves.{word_bound, draws}
use Rattle.deliver_core.proofs.BoardClaims.{board_at, counted_at, drawn_at, over_at, done_at, NumberDrawn, number_drawn, EndMet, end_met}
use Rattle.deliver_core.proofs.BoardClaims.{draw_number, draw_end}
use Rattle.deliver_core.proofs.board.Board.claim.Goals as goal
use Rattle.deliver_core.proofs.board.Board.claim.Goals.{Then-word-from, Else-word-from}

pub returns-then-seat-clause-word_bound : goal.returns-then-seat-clause-word_bound
returns-then-seat-clause-word_bound c = word_bound (size_of c.args.self.now)

pub fetch_add-word-requires : goal.fetch_add-word-requires
fetch_add-word-requires c =
    let own = board_at _ _ _ c.in-Some.place c.in-Some.is c.args.seat.now c.args.self.now c.seat.view_is c.requires in
    let counts = counted_at _ _ _ c.in-Some.place c.in-Some.is false (search) c.seat.invariant in
    let words = c.self.invariant.words in
    let tasks = c.self.invariant.few_tasks in
    let seats = c.self.invariant.few_seats in (
      ap (λ (b : BoardValue). b.id)
          (own ∙ sym c.self.view_is),
      omega arith,
      draws c.self.inside.table.shared.key _ _ c.in-Some.place.me counts.one counts.over_is (omega arith)
          (omega arith),
    )

-- the word is the number of a task, and is drawn
number : (c : Then-word-from) → NumberDrawn c.in-Some.place c.fetch_add-word.new.seat c.seat.inside.count c.fetch_add-word.result
number c =
    let own = board_at _ _ _ c.in-Some.place c.in-Some.is c.args.seat.now c.args.self.now c.seat.view_is c.requires in
    let counts = counted_at _ _ _ c.in-Some.place c.in-Some.is false (search) c.seat.invariant in
    let h = c.fetch_add-word.ensures in
    let tasks = ap (λ (b : BoardValue). b.tasks) (own ∙ sym c.self.view_is) in
    number_drawn c.in-Some.place c.fetch_add-word.new.seat c.seat.inside.count c.fetch_add-word.result counts h.0 h.2 (omega arith)

-- the word has passed all tasks
past : (c : Else-word-from) → EndMet c.in-Some.place c.fetch_add-word.new.seat c.seat.inside.count
past c =
    let own = board_at _ _ _ c.in-Some.place c.in-Some.is c.args.seat.now c.args.self.now c.seat.view_is c.requires in
    let counts = counted_at _ _ _ c.in-Some.place c.in-Some.is false (search) c.seat.invariant in
    let h = c.fetch_add-word.ensures in
    let tasks = ap (λ (b : BoardValue). b.tasks) (own ∙ sym c.self.view_is) in
    end_met c.in-Some.place c.fetch_add-word.new.seat c.seat.inside.count c.fetch_add-word.result counts h.0 h.2 (omega arith)

pub overflow_add-seat : goal.overflow_add-seat
overflow_add-seat c =
    let few = (number c).few in
    let most = c.self.invariant.few_tasks in
    let same = c.self.invariant.tasks_are in
    omega arith

pub invariant_of-seat : goal.invariant_of-seat
invariant_of-seat c =
    let going : false ≡ c.seat.inside.done = cc in
    subst (λ (d : Bool). IsCounted c.fetch_add-word.new.seat (c.seat.inside.count + 1) d) going
    (number (goal.at.invariant_of-seat c).Then-word-from).counted

pub invariant_of-seat-else-word-from : goal.invariant_of-seat-else-word-from
invariant_of-seat-else-word-from c = (past (goal.at.invariant_of-seat-else-word-from c).Else-word-from).counted

pub returns-then-word-from-clause-number : goal.returns-then-word-from-clause-number
returns-then-word-from-clause-number c =
    let tasks = ap (λ (b : BoardValue). b.tasks) c.self.view_is in
    let drawn = drawn_at _ _ _ c.in-Some.place c.in-Some.is c.args.seat.now c.seat.view_is in
    let done = done_at _ _ _ c.in-Some.place c.in-Some.is c.args.seat.now c.seat.view_is in
    let now = number (goal.at.returns-then-word-from-clause-number c).Then-word-from in record {
      task = omega arith;
      above = subst (λ (xs : List ℕ). All (λ k. k < c.fetch_add-word.result) xs) drawn now.above;
      drawn = now.drawn ∙ ap (λ (xs : List ℕ). xs ++ c.fetch_add-word.result ∷ []) drawn;
      before = cc;
      after = search;
    }

pub returns-then-word-from-clause-draw : goal.returns-then-word-from-clause-draw
returns-then-word-from-clause-draw c fresh =
    let own = board_at _ _ _ c.in-Some.place c.in-Some.is c.args.seat.now c.args.self.now c.seat.view_is c.requires in
    let counts = counted_at _ _ _ c.in-Some.place c.in-Some.is false (search) c.seat.invariant in
    let drawn = drawn_at _ _ _ c.in-Some.place c.in-Some.is c.args.seat.now c.seat.view_is in
    let over = over_at _ _ _ c.in-Some.place c.in-Some.is c.args.seat.now c.seat.view_is in
    let tasks = ap (λ (b : BoardValue). b.tasks) own in
    let tasks' = ap (λ (b : BoardValue). b.tasks) c.self.view_is in
    let seats = ap (λ (b : BoardValue). b.seats) own in
    let below = c.fetch_add-word.ensures.2.0 in
    let word = c.fetch_add-word.result in
    let now = number (goal.at.returns-then-word-from-clause-draw c).Then-word-from in (
      word,
      draw_number c.args.self.now c.args.seat.now _ word (omega arith) (sym over ∙ counts.over_is) (omega arith)
          (now.drawn ∙ ap (λ (xs : List ℕ). xs ++ word ∷ []) drawn)
          (done_at _ _ _ c.in-Some.place c.in-Some.is c.args.seat.now c.seat.view_is) now.counted.over_is,
    )

pub returns-else-word-from-clause-none : goal.returns-else-word-from-clause-none
returns-else-word-from-clause-none c = record {
  drawn = (past (goal.at.returns-else-word-from-clause-none c).Else-word-from).drawn
      ∙ drawn_at _ _ _ c.in-Some.place c.in-Some.is c.args.seat.now c.seat.view_is;
  done = refl;
}

pub returns-else-word-from-clause-draw : goal.returns-else-word-from-clause-draw
returns-else-word-from-clause-draw c fresh =
    let own = board_at _ _ _ c.in-Some.place c.in-Some.is c.args.seat.now c.args.self.now c.seat.view_is c.requires in
    let counts = counted_at _ _ _ c.in-Some.place c.in-Some.is false (search) c.seat.invariant in
    let drawn = drawn_at _ _ _ c.in-Some.place c.in-Some.is c.args.seat.now c.seat.view_is in
    let over = over_at _ _ _ c.in-Some.place c.in-Some.is c.args.seat.now c.seat.view_is in
    let tasks = ap (λ (b : BoardValue). b.tasks) own in
    let tasks' = ap (λ (b : BoardValue). b.tasks) c.self.view_is in
    let seats = ap (λ (b : BoardValue). b.seats) own in
    let below = c.fetch_add-word.ensures.2.0 in
    let word = c.fetch_add-word.result in
    let met = past (goal.at.returns-else-word-from-clause-draw c).Else-word-from in (
      word,
      draw_end c.args.self.now c.args.seat.now _ word (omega arith) (sym over ∙ counts.over_is) (omega arith) (met.drawn ∙ drawn) refl met.counted.over_is,
    )

pub returns-then-word-from-clause-word_bound : goal.returns-then-word-from-clause-word_bound
returns-then-word-from-clause-word_bound c = word_bound (size_of c.args.self.now)

pub returns-else-word-from-clause-word_bound : goal.returns-else-word-from-clause-word_bound
returns-else-word-from-clause-word_bound c = word_bound (size_of c.args.self.now)
