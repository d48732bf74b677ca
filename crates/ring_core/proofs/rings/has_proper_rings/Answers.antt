use Rattle.std.proofs.Common.{sym, ◌∙◌}
use Rattle.ring_core.proofs.RingLemmas.{rings_as}
use Rattle.ring_core.proofs.rings.has_proper_rings.Goals as goal

pub returns : goal.returns
returns c =
    let o = c.in_ok-outline.ensures.outline in
    rings_as c.args.geometry.now c.deref.result.now c.is_proper.result (sym o.kind ∙ c.in-Areas.is) (c.deref.ensures.value ∙ o.edges) c.is_proper.ensures
