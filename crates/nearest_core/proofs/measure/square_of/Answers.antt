use Rattle.std.proofs.Common.{subst}
use Rattle.std.specs.Prelude.{Option}
use Rattle.std.specs.Borrow.{Bor}
use Rattle.distance_core.specs.Units.{units_of}
use Rattle.layer_core.specs.Layers.{ShapeIs, with_number}
use Rattle.nearest_core.proofs.MeasureLemmas.{known_square, measured_shape}
use Rattle.nearest_core.proofs.measure.square_of.Goals as goal

pub returns-in-Some : goal.returns-in-Some
returns-in-Some g c =
    known_square g.G.Square.Square.fraction g.G.Geometry.box_of g.G.Planar.has_point c.args.sought.now.query.now c.args.right.now c.args.sought.now.geometry.now
    c.args.number c.args.square c.in-Some.known c.in-Some.ensures.value c.in-Some.ensures.exact c.requires.boxes c.requires.reach

pub returns : goal.returns
returns g c =
    measured_shape g.G.Square.Square.fraction g.G.Geometry.box_of g.G.Planar.has_point c.args.sought.now.query.now c.args.right.now c.args.sought.now.geometry.now
    c.args.number g.met.G.Planar.in_plane c.requires.boxes.feature c.requires.boxes.held c.square_within.result c.in-Some-shape.geometry (units_of c.limit_for-limit.result)
    (subst (λ (t : Option (Bor g.row.G.Denot)). ShapeIs t (with_number c.args.number c.args.right.now)) c.in-Some-shape.is c.shape.ensures)
    c.limit_for-limit.ensures c.square_within.ensures.within c.square_within.ensures.square
