use Rattle.plane_core.proofs.PlaceLemmas.{side_first, side_order}
use Rattle.plane_core.proofs.place.Place.side_of.Goals as goal

pub returns-then-self-eq0 : goal.returns-then-self-eq0
returns-then-self-eq0 c =
    let side = c.side_of-side in
    side_first _ c.args.e.now c.args.self.now side.result side.ensures.bound side.ensures.value c.if-self-eq0.true c.cmp.ensures

pub returns-else-self-eq0 : goal.returns-else-self-eq0
returns-else-self-eq0 c =
    let side = c.side_of-side in
    let turn = c.turn_to in
    side_order _ c.args.e.now c.args.self.now side.result turn.result side.ensures.bound turn.ensures.bound
    side.ensures.value turn.ensures.value c.compare_products.ensures
