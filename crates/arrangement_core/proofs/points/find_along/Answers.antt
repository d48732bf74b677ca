use Rattle.std.proofs.Common.{[], List, subst, sym}
use Rattle.plane_core.specs.declared.vertex.Vertex.{Vertex}
use Rattle.arrangement_core.specs.Single.{HasAlong}
use Rattle.arrangement_core.proofs.SingleLemmas.{none_along}
use Rattle.arrangement_core.proofs.points.find_along.Goals as goal

pub returns : goal.returns
returns c =
    let e = c.args.e.now in
    let none = subst (λ (l : List Vertex). HasAlong e [] l) (sym c.clear.ensures.items) (none_along e) in
    subst (λ (l : List Vertex). HasAlong e l c.push_along-2.new.found.items) c.points.view_is (c.in_ok-push_along-2.ensures _ (c.in_ok-push_along.ensures [] none))
