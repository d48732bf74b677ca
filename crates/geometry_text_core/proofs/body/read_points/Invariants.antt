use Rattle.geometry_text_core.specs.Positions.{TakesPosition, HasPosition, the_position}
use Rattle.wkt_any_core.specs.Held.{AddsPointsBy}
use Rattle.geometry_text_core.proofs.EachLemmas.{SoFar}
use Rattle.geometry_text_core.proofs.body.read_points.Given as goal

abbrev pub invariant-loop : goal.invariant-loop
invariant-loop l = SoFar (TakesPosition l.fn.scale l.fn.order) (λ ps. AddsPointsBy HasPosition the_position l.fn.paths ps l.paths) l.initial.rest l.rest l.counter
