use Rattle.distance_core.specs.Units.{units_of}
use Rattle.planar_core.proofs.AnyLemmas.{far_envelopes, forms_of, found_if, square_if}
use Rattle.planar_core.proofs.any.AnyGeometryPlanar.square_within.Goals as goal

pub returns-then-not-is_within-clause-within : goal.returns-then-not-is_within-clause-within
returns-then-not-is_within-clause-within c = (
  λ some. absurd (let wrong = some in cc),
  λ within. absurd (far_envelopes c.args.first.now c.args.second.now c.bounds.result c.bounds-2.result (units_of c.args.distance) c.is_within.result
      c.bounds.ensures c.bounds-2.ensures c.is_within.ensures c.if-not-is_within.true within),
)

pub square_between-requires : goal.square_between-requires
square_between-requires c =
    forms_of c.args.first.now c.args.second.now c.geometry.result.now c.geometry-2.result.now c.geometry.ensures c.geometry-2.ensures c.args.forms c.requires

pub returns-clause-within : goal.returns-clause-within
returns-clause-within c =
    found_if c.args.first.now c.args.second.now c.geometry.result.now c.geometry-2.result.now c.geometry.ensures c.geometry-2.ensures (units_of c.args.distance)
    c.square_between.result c.square_between.ensures.within

pub returns-clause-square : goal.returns-clause-square
returns-clause-square c =
    square_if c.args.first.now c.args.second.now c.geometry.result.now c.geometry-2.result.now c.geometry.ensures c.geometry-2.ensures
    c.square_between.result c.square_between.ensures.square
