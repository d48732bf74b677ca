use Rattle.std.proofs.Common.{◌≡◌, ◌<◌, length, refl, sym, ap, ◌∙◌, subst, arith, rules}
use Rattle.std.proofs.lemmas.List.{length-replicate}
use Rattle.std.proofs.lemmas.List.Elements.{All-replicate, All-same}
use Rattle.std.proofs.lemmas.Result.{IfOk-weaker}
use Rattle.deliver_core.specs.Boards.{fresh_seat}
use Rattle.refine_core.specs.Refinements.{AreRefined}
use Rattle.refine_core.proofs.ChunkLemmas.{some_chunks}
use Rattle.refine_core.proofs.GatherLemmas.{all_gathered, all_parted, numbers_counted, rows_joined}
use Rattle.refine_core.proofs.refine.refine_by_workers.Goals as goal

pub refine_each-requires : goal.refine_each-requires
refine_each-requires g c = c.requires.near

pub run_workers-requires-clause-near : goal.run_workers-requires-clause-near
run_workers-requires-clause-near g c κs lives = c.requires.near

pub run_workers-requires-clause-chunks : goal.run_workers-requires-clause-chunks
run_workers-requires-clause-chunks g c κs lives =
    λ number below. c.chunk_count-chunks.ensures.numbers number (omega (arith, below, c.in_ok-board.ensures.board.0))

pub run_workers-requires-clause-seats : goal.run_workers-requires-clause-seats
run_workers-requires-clause-seats g c κs lives =
    let fresh = fresh_seat c.in_ok-board.board in
    All-same (λ seat. seat ≡ fresh) _ _ c.in_ok-board.ensures.seats (All-replicate (λ seat. seat ≡ fresh) _ fresh refl)

pub close-requires-clause-all : goal.close-requires-clause-all
close-requires-clause-all g c =
    let all = all_gathered (g.C.Condition.stands c.args.condition.now) (g.C.Condition.answers c.args.condition.now) c.args.pairs.now c.in_ok-board.board
    c.in_ok-shares.shares.items c.in_ok-seats.seats.items c.in_ok-seats.parts.items c.in_ok-seats.ensures.all c.in_ok-shares.ensures.shares
    c.in_ok-seats.ensures.seats c.in_ok-seats.ensures.parts in
    all.as_many ∙ c.in_ok-shares.ensures.len ∙ ap length c.in_ok-board.ensures.seats ∙ length-replicate _ _ ∙ sym c.in_ok-board.ensures.board.1

pub close-requires-clause-own : goal.close-requires-clause-own
close-requires-clause-own g c =
    (all_gathered (g.C.Condition.stands c.args.condition.now) (g.C.Condition.answers c.args.condition.now) c.args.pairs.now c.in_ok-board.board
    c.in_ok-shares.shares.items c.in_ok-seats.seats.items c.in_ok-seats.parts.items c.in_ok-seats.ensures.all c.in_ok-shares.ensures.shares
    c.in_ok-seats.ensures.seats c.in_ok-seats.ensures.parts).own

pub rows_of-requires : goal.rows_of-requires
rows_of-requires g c =
    let all = all_gathered (g.C.Condition.stands c.args.condition.now) (g.C.Condition.answers c.args.condition.now) c.args.pairs.now c.in_ok-board.board
    c.in_ok-shares.shares.items c.in_ok-seats.seats.items c.in_ok-seats.parts.items c.in_ok-seats.ensures.all c.in_ok-shares.ensures.shares
    c.in_ok-seats.ensures.seats c.in_ok-seats.ensures.parts in
    numbers_counted (g.C.Condition.stands c.args.condition.now) (g.C.Condition.answers c.args.condition.now) c.args.pairs.now c.chunk_count-chunks.result
    c.in_ok-seats.parts.items c.chunk_count-chunks.ensures.all all.each

pub returns : goal.returns
returns g c =
    let stands = g.C.Condition.stands c.args.condition.now in
    let answers = g.C.Condition.answers c.args.condition.now in
    let pairs = c.args.pairs.now in
    let parts = c.in_ok-seats.parts.items in
    let seats = c.in_ok-seats.seats.items in
    let all = all_gathered stands answers pairs c.in_ok-board.board c.in_ok-shares.shares.items seats parts c.in_ok-seats.ensures.all
    c.in_ok-shares.ensures.shares c.in_ok-seats.ensures.seats c.in_ok-seats.ensures.parts in
    let many : length c.in_ok-shares.shares.items ≡ c.in_ok-board.board.seats = c.in_ok-shares.ensures.len ∙ ap length c.in_ok-board.ensures.seats
    ∙ length-replicate _ _ ∙ sym c.in_ok-board.ensures.board.1 in
    let filled : 0 < length pairs = search rules in
    let some : 0 < length c.in_ok-shares.shares.items = omega (
      arith,
      many,
      c.in_ok-board.ensures.board.1,
      c.min.ensures,
      c.requires.workers.0,
      some_chunks c.chunk_count-chunks.result (length pairs) _ filled c.chunk_count-chunks.ensures.all,
    ) in
    let parted = all_parted stands answers pairs c.in_ok-board.board seats parts (length c.in_ok-shares.shares.items) c.chunk_count-chunks.result all
    some c.in_ok-board.ensures.board.0 c.close.ensures.numbers in
    IfOk-weaker c.join_rows.result _ _ (λ refined is.
    subst (AreRefined stands answers pairs) (sym is)
    (rows_joined stands answers pairs c.chunk_count-chunks.result parts c.in_ok-rows.rows.items all.each
    (λ number below. c.in_ok-rows.ensures.rows number (parted number below)) c.in_ok-rows.ensures.len c.chunk_count-chunks.ensures.all))
    c.join_rows.ensures
