use Rattle.std.proofs.Common.{[], refl}
use Rattle.layer_edit_core.proofs.IdLemmas.{AreApart-empty, rises_more}
use Rattle.layer_edit_core.proofs.ids.rising_len.Goals as goal

pub loop-place-init : goal.loop-place-init
loop-place-init c = (AreApart-empty [] [] refl refl).rises

pub loop-place-preserved : goal.loop-place-preserved
loop-place-preserved c =
    let after = rw c.as_str.ensures at (c.if-not-comes_after.ensures.0 refl) in
    rises_more c.args.entries.now c.loop-place.place c.index-entries-place.result c.loop-place-test.true c.index-entries-place.is c.loop-place.invariant after
