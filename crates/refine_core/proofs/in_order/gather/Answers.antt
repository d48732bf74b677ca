use Rattle.std.proofs.Common.{◌∷◌, [], IsOk, All, refl, ap, subst, arith, ◌∙◌, append_assoc}
use Rattle.std.specs.List.{flat_map}
use Rattle.std.specs.Vec.Iter.{into_iter_items}
use Rattle.std.proofs.lemmas.List.Elements.{All-push}
use Rattle.refine_core.specs.Parts.{seat_in, parts_in}
use Rattle.refine_core.proofs.PartLemmas.{all_yielded, given_more}
use Rattle.refine_core.proofs.in_order.gather.Goals as goal

pub loop-share-preserved : goal.loop-share-preserved
loop-share-preserved g c =
    let before = c.loop-share.invariant in
    let share = c.in-Some.share in
    let yielded = c.loop-share.yielded in
    record {
      shares = append_assoc yielded (share ∷ []) _ ∙ rw (← c.in-Some.ensures.steps.0) before.shares;
      all = All-push IsOk yielded share before.all (rw c.in_ok-seat.was refl);
      seats = given_more seat_in c.loop-share.seats.items _ yielded share _ before.seats c.in_ok-push.ensures.items (ap seat_in c.in_ok-seat.was);
      parts = given_more parts_in c.loop-share.parts.items _ yielded share _ before.parts c.in_ok-append.ensures.items (ap parts_in c.in_ok-seat.was);
    }

pub returns-clause-all : goal.returns-clause-all
returns-clause-all g c =
    let whole = all_yielded c.loop-share.yielded (into_iter_items c.loop-share.share-iterator) c.args.shares.items c.loop-share.invariant.shares
    (omega (arith, c.loop-share.share-iterator.rest.ok, c.in-None.ensures.steps.0)) in
    subst (All IsOk) whole c.loop-share.invariant.all

pub returns-clause-seats : goal.returns-clause-seats
returns-clause-seats g c =
    let whole = all_yielded c.loop-share.yielded (into_iter_items c.loop-share.share-iterator) c.args.shares.items c.loop-share.invariant.shares
    (omega (arith, c.loop-share.share-iterator.rest.ok, c.in-None.ensures.steps.0)) in
    c.loop-share.invariant.seats ∙ ap (flat_map seat_in) whole

pub returns-clause-parts : goal.returns-clause-parts
returns-clause-parts g c =
    let whole = all_yielded c.loop-share.yielded (into_iter_items c.loop-share.share-iterator) c.args.shares.items c.loop-share.invariant.shares
    (omega (arith, c.loop-share.share-iterator.rest.ok, c.in-None.ensures.steps.0)) in
    c.loop-share.invariant.parts ∙ ap (flat_map parts_in) whole
