use Rattle.std.proofs.Common.{sym, refl, ◌∙◌}
use Rattle.ring_core.proofs.ApartLemmas.{apart_proper}
use Rattle.ring_core.proofs.PairLemmas.{proper_test}
use Rattle.ring_core.proofs.pair.meet_properly.Goals as goal

pub returns : goal.returns
returns c = rw (c.do_cross_inside-is_crossing.ensures, c.do_run_along-is_along.ensures) (proper_test c.args.e.now c.args.f.now)

pub returns-then-not-is_box_meeting : goal.returns-then-not-is_box_meeting
returns-then-not-is_box_meeting c = (λ k. apart_proper c.args.e.now c.args.f.now (sym c.is_box_meeting.ensures ∙ c.if-not-is_box_meeting.true), λ k. refl)
