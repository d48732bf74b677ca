use Rattle.std.proofs.Common.{arith}
use Rattle.std.proofs.lemmas.List.{length_push}
use Rattle.std.proofs.lemmas.List.Elements.{All-drop, All-take}
use Rattle.refine_core.specs.Parts.{IsPart}
use Rattle.refine_core.specs.Refinements.{IsPairIn}
use Rattle.refine_core.proofs.PartLemmas.{few_more, all_pushed, numbers_pushed}
use Rattle.refine_core.proofs.worker.work.Goals as goal

pub claim-requires : goal.claim-requires
claim-requires g c = c.loop-number.invariant.seat

pub chunk-requires : goal.chunk-requires
chunk-requires g c = c.requires.chunks c.in-Some.number c.in-Some.ensures.number.task

pub refine_each-requires : goal.refine_each-requires
refine_each-requires g c =
    let near = IsPairIn (g.C.Condition.near c.args.job.now.condition.now) in
    rw c.chunk.ensures (All-take near _ _ (All-drop near _ _ c.requires.near))

pub loop-number-smaller : goal.loop-number-smaller
loop-number-smaller g c =
    let drawn = c.in-Some.ensures.number in
    let few = c.loop-number.invariant.few c.in-Some.number drawn.above in
    let more = length_push c.loop-number.seat.drawn c.in-Some.number in
    rw (drawn.drawn, more) (omega (arith, few, drawn.task))

pub loop-number-preserved : goal.loop-number-preserved
loop-number-preserved g c =
    let before = c.loop-number.invariant in
    let drawn = c.in-Some.ensures.number in
    let old = c.loop-number.parts.items in
    let new = c.push.new.self.items in
    let grown = c.in_ok-push.ensures.items in
    let told = IsPart (g.C.Condition.stands c.args.job.now.condition.now) (g.C.Condition.answers c.args.job.now.condition.now) c.args.job.now.pairs.now in
    record {
      seat = c.claim.ensures.seat;
      numbers = numbers_pushed old new c.in-Some.number c.in_ok-refined.refined grown c.loop-number.seat.drawn c.claim.new.seat.drawn before.numbers drawn.drawn;
      parts = all_pushed old new c.in-Some.number c.in_ok-refined.refined grown told before.parts
          (record { number = c.requires.chunks c.in-Some.number drawn.task; refined = rw (← c.chunk.ensures) c.in_ok-refined.ensures });
      few = rw drawn.drawn (few_more c.loop-number.seat.drawn c.in-Some.number before.few drawn.above);
    }
