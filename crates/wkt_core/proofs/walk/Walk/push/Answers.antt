use Rattle.std.proofs.Common.{refl, sym, ◌∙◌, ap}
use Rattle.wkt_core.proofs.WalkLemmas.{walk_more, few_kept, step_first, step_same, step_on, step_turned, turn_kept}
use Rattle.wkt_core.proofs.HeadingLemmas.{same_told}
use Rattle.wkt_core.proofs.walk.Walk.push.Goals as goal
use Rattle.wkt_core.proofs.walk.Walk.push.Goals.{in-Some+else-stays+then-not-straight_on, in-Some+else-stays+else-not-straight_on, in_default}

pub returns-then-stays : goal.returns-then-stays
returns-then-stays c = λ ps k.
    walk_more c.args.self.now c.args.self.now ps c.args.point k
    (step_same c.args.self.now.turns.items c.args.self.now.last c.in-Some.last c.args.point c.args.self.now (few_kept _ _ k) c.in-Some.is
    (search same_told) refl refl)

pub returns : goal.returns
returns c = λ ps k.
    walk_more c.args.self.now _ ps c.args.point k
    (elim c.match-before.branch [
      | in-Some+else-stays+then-not-straight_on w ↦
          step_turned c.args.self.now.turns.items c.args.self.now.last w.in-Some.last c.args.point _ (few_kept _ _ k) w.in-Some.is
          (search same_told) (sym w.goes_on-straight_on.ensures ∙ w.if-not-straight_on.true)
          (ap (λ v. v.turns.items) w.self-is
          ∙ turn_kept (λ v. v.items) w.try_push.result c.args.self.now.turns w.try_push.new.self w.in-Some.last (few_kept _ _ k)
          w.try_push.ensures.ok w.try_push.ensures.variant.0 w.try_push.ensures.err w.try_push.ensures.full)
          refl
      | in-Some+else-stays+else-not-straight_on w ↦
          step_on c.args.self.now.turns.items c.args.self.now.last w.in-Some.last c.args.point _ (few_kept _ _ k) w.in-Some.is
          (search same_told) (sym w.goes_on-straight_on.ensures ∙ w.if-not-straight_on.false) (ap (λ v. v.turns.items) w.self-is) refl
      | in_default w ↦
          step_first c.args.self.now.turns.items c.args.self.now.last c.args.point _ (few_kept _ _ k) w.in_default.is
          (ap (λ v. v.turns.items) w.self-is) refl
    ])
