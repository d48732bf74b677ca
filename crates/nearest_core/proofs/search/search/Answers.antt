use Rattle.std.proofs.Common.{◌∙◌, ap}
use Rattle.nearest_core.specs.Squares.{square_of}
use Rattle.nearest_core.proofs.SquareLemmas.{only_square}
use Rattle.nearest_core.proofs.StepLemmas.{none_nearest_as, root_holds_as}
use Rattle.nearest_core.proofs.search.search.Goals as goal

pub browse-requires-clause-queue : goal.browse-requires-clause-queue
browse-requires-clause-queue g c =
    root_holds_as g.G.Geometry.box_of c.layer-layer.result.now.list c.len-len.ensures.layer c.args.sought.now.geometry.now c.in-Some.root c.layer-layer.result.now.root
    c.tree.ensures.exact c.args.sought.now.bounds c.requires.bounds _ _ _ c.clear.ensures c.in_ok-push.ensures (c.in-Some.ensures.root ∙ c.tree.ensures.root)
    (only_square _ _ _ c.squared_distance.ensures.least ∙ ap (square_of c.args.sought.now.bounds) c.cover.ensures.value)
    c.args.right.now c.layer-layer.ensures

pub returns-in_default : goal.returns-in_default
returns-in_default g c =
    none_nearest_as g.G.Square.Square.fraction g.G.Geometry.box_of g.G.Planar.has_point c.args.sought.now.query.now c.layer-layer.result.now.list c.args.right.now
    c.args.sought.now.geometry.now c.layer-layer.result.now.root (c.in_default.ensures.root ∙ c.tree.ensures.root) c.tree.ensures.exact _ c.clear-3.ensures.items
    c.layer-layer.ensures
