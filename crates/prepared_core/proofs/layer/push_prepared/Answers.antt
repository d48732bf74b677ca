use Rattle.std.proofs.Common.{subst}
use Rattle.std.specs.Prelude.{Option}
use Rattle.std.specs.Borrow.{Bor}
use Rattle.layer_core.specs.Layers.{with_number, ShapeIs}
use Rattle.prepared_core.proofs.PreparedLemmas.{more_prepared}
use Rattle.prepared_core.proofs.layer.push_prepared.Goals as goal

pub returns-in_ok-push : goal.returns-in_ok-push
returns-in_ok-push g c =
    let layer = c.args.layer.now.list in
    let found = subst (λ (t : Option (Bor g.row.G.Denot)). ShapeIs t (with_number c.args.number layer)) c.in-Some.is c.shape.ensures in
    more_prepared g.M.Preparation.is_form layer c.args.features.now.items _ c.args.number c.in-Some.shape c.in_ok-geometry.geometry c.requires found c.in_ok-geometry.ensures c.in_ok-push.ensures.items
