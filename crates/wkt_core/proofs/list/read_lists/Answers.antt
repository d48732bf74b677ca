use Rattle.std.proofs.Common.{◌≡◌, [], ◌∷◌, length, arith, sym, ap, refl}
use Rattle.wkt_core.specs.TokenSteps.{skip}
use Rattle.wkt_core.specs.ListSteps.{TakesPoints}
use Rattle.wkt_core.proofs.FrontLemmas.{symbol_begins, length-skip}
use Rattle.wkt_core.proofs.ItemLemmas.{no_item_follows}
use Rattle.wkt_core.proofs.PointLemmas.{if_none, lists_exact, list_more, lists_ended, no_lists_end, no_list_follows}
use Rattle.wkt_core.proofs.list.read_lists.Goals as goal

pub returns-in_err-after-clause-none : goal.returns-in_err-after-clause-none
returns-in_err-after-clause-none c =
    if_none _ (no_item_follows (TakesPoints c.args.scale) (lists_exact c.args.scale) c.in_ok-rest.rest.now c.in_ok-rest.rest.now [] refl _
    (symbol_begins 40 _ _ (sym c.in_ok-rest.ensures)) (rw c.skip_blanks-first.ensures at c.in_err-after.ensures.none))

pub loop-next-init : goal.loop-next-init
loop-next-init c =
    let (ps, taken, firsts) = c.in_ok-after.ensures.some in
    record {
      start = c.in_ok-rest.rest.now;
      opened = symbol_begins 40 _ _ (sym c.in_ok-rest.ensures);
      done = [];
      last = ps;
      rest = c.in_ok-rest.rest.now;
      begun = refl;
      taken = rw c.skip_blanks-first.ensures at taken;
      firsts = c.first_was_read.ensures c.args.scale ps firsts;
    }

pub returns-in_err-next-clause-none : goal.returns-in_err-next-clause-none
returns-in_err-next-clause-none c = if_none _ (no_lists_end c.args.scale _ _ _ c.loop-next.invariant c.in_err-next.ensures)

pub returns-in_err-rest-in-Item-clause-none : goal.returns-in_err-rest-in-Item-clause-none
returns-in_err-rest-in-Item-clause-none c =
    let next : skip c.loop-next.after.now ≡ 44 ∷ c.in-Item.behind.now = rw c.in-Item.is at c.in_ok-next.ensures in
    if_none _ (no_list_follows c.args.scale _ _ c.in-Item.behind.now _ c.loop-next.invariant next
    (rw c.skip_blanks-start.ensures at c.in_err-rest-in-Item.ensures.none))

pub loop-next-preserved : goal.loop-next-preserved
loop-next-preserved c =
    let next : skip c.loop-next.after.now ≡ 44 ∷ c.in-Item.behind.now = rw c.in-Item.is at c.in_ok-next.ensures in
    let (ps, taken, firsts) = c.in_ok-rest-in-Item.ensures.some in
    list_more c.args.scale _ _ c.in-Item.behind.now _ _ _ c.loop-next.invariant ps next (rw c.skip_blanks-start.ensures at taken)
    (λ lists first. c.push.ensures c.args.scale lists ps first firsts)

pub loop-next-smaller : goal.loop-next-smaller
loop-next-smaller c =
    let next : skip c.loop-next.after.now ≡ 44 ∷ c.in-Item.behind.now = rw c.in-Item.is at c.in_ok-next.ensures in
    let (ps, taken, firsts) = c.in_ok-rest-in-Item.ensures.some in
    let shorter = (lists_exact c.args.scale).shorter _ ps _ taken in
    let skipped = length-skip c.in-Item.behind.now in
    let before = length-skip c.loop-next.after.now in
    omega (arith, shorter, ap length next, ap length c.skip_blanks-start.ensures)

pub returns-in-End-clause-some : goal.returns-in-End-clause-some
returns-in-End-clause-some c =
    let next : skip c.loop-next.after.now ≡ 41 ∷ c.in-End.behind.now = rw c.in-End.is at c.in_ok-next.ensures in
    lists_ended c.args.scale _ _ _ _ c.loop-next.invariant next

pub read_points-requires-in-Item : goal.read_points-requires-in-Item
read_points-requires-in-Item c = c.new-further.ensures c.args.scale
