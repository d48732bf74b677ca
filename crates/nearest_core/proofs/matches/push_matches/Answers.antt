use Rattle.std.proofs.Common.{subst}
use Rattle.std.specs.Prelude.{Option}
use Rattle.std.specs.Borrow.{Bor}
use Rattle.std.proofs.lemmas.Result.{on_ok_weaker}
use Rattle.layer_core.specs.Layers.{ShapeIs, with_number}
use Rattle.nearest_core.proofs.MatchLemmas.{row_added}
use Rattle.nearest_core.proofs.matches.push_matches.Goals as goal

pub returns : goal.returns
returns g c =
    on_ok_weaker c.push_row.result
    (row_added g.G.Square.Square.fraction g.G.Planar.has_point c.args.query.now c.args.right.now c.args.left.now.list c.args.number _ _ c.in-Some.geometry _ _
    (subst (λ (t : Option (Bor g.row.G.Denot)). ShapeIs t (with_number c.args.number c.args.left.now.list)) c.in-Some.is c.shape.ensures)
    c.in_ok-search.ensures c.deref.ensures.value) c.push_row.ensures
