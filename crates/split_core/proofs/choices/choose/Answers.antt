use Rattle.std.proofs.Common.{sym, ◌∙◌}
use Rattle.split_core.proofs.ChoiceLemmas.{IsNeed, least_keeps, least_takes}
use Rattle.split_core.proofs.choices.choose.Goals as goal
use Rattle.split_core.proofs.choices.choose.Goals.{then-is_less, else-is_less}

pub loop-place-preserved : goal.loop-place-preserved
loop-place-preserved g c =
    let need : IsNeed c.of-need.result (g.T.Covered.cover c.index-items-place.result) c.args.shape.now =
    rw (← c.cover-cover.ensures) (record { enlargement = c.of-need.ensures.enlargement; area = c.of-need.ensures.area }) in
    elim c.if-is_less.branch [
      | then-is_less w ↦ rw (w.best-is, w.least-is) (least_takes g.T.Covered.cover _ _ _ _ _ _ _ c.loop-place.invariant c.loop-place-test.true
          c.index-items-place.is need (sym c.is_less-is_less.ensures ∙ w.if-is_less.true))
      | else-is_less w ↦ rw (w.best-is, w.least-is) (least_keeps g.T.Covered.cover _ _ _ _ _ _ _ c.loop-place.invariant c.loop-place-test.true
          c.index-items-place.is need (sym c.is_less-is_less.ensures ∙ w.if-is_less.false))
    ]
