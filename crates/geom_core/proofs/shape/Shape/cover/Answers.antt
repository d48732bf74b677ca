use Rattle.geom_core.proofs.ShapeLemmas.{in_cover_first, in_cover_second, cover_least}
use Rattle.geom_core.proofs.shape.Shape.cover.Goals as goal

pub returns-clause-first : goal.returns-clause-first
returns-clause-first c = rw (c.joined-x.ensures, c.joined-y.ensures) (in_cover_first c.args.self.now c.args.other.now)

pub returns-clause-second : goal.returns-clause-second
returns-clause-second c = rw (c.joined-x.ensures, c.joined-y.ensures) (in_cover_second c.args.self.now c.args.other.now)

pub returns-clause-least : goal.returns-clause-least
returns-clause-least c = rw (c.joined-x.ensures, c.joined-y.ensures) (cover_least c.args.self.now c.args.other.now)
