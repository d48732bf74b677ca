use Rattle.std.proofs.Common.{◌∙◌, ap}
use Rattle.nearest_core.specs.Squares.{square_of}
use Rattle.nearest_core.proofs.OpenLemmas.{child_more}
use Rattle.nearest_core.proofs.SquareLemmas.{only_square}
use Rattle.nearest_core.proofs.search.push_children.Goals as goal

pub loop-child-preserved : goal.loop-child-preserved
loop-child-preserved c =
    child_more c.args.shape.now c.args.children.now _ _ _ _ _ _ c.loop-child-test.true c.child-item.is c.requires
    (only_square _ _ _ c.squared_distance.ensures.least ∙ ap (square_of c.args.shape.now) c.cover.ensures.value)
    c.loop-child.invariant c.in_ok-push.ensures
