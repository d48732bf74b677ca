use Rattle.prepared_core.proofs.PreparedLemmas.{prepared_at}
use Rattle.prepared_core.proofs.layer.PreparedLayer.prepared.Goals as goal

pub returns-then-feature-number : goal.returns-then-feature-number
returns-then-feature-number g c =
    prepared_at g.M.Preparation.is_form c.self.inside.layer.now.list c.args.self.now c.deref-2.result.now c.self.inside.features.items c.args.number _ c.in_ok-feature.feature
    c.self.view_is c.deref-2.ensures.value c.self.invariant c.in_ok-feature.ensures.lookup c.if-feature-number.true
