use Rattle.std.proofs.Common.{◌≡◌}
use Rattle.draw_core.specs.Views.{cover_with}
use Rattle.draw_core.proofs.frame.cover_with.Given as goal

abbrev pub invariant-loop-feature : goal.invariant-loop-feature
invariant-loop-feature g l =
    cover_with g.G.Geometry.box_of l.cover l.feature-iterator ≡ cover_with g.G.Geometry.box_of l.initial.cover l.initial.feature-iterator
