use Rattle.std.proofs.Common.{refl}
use Rattle.distance_core.proofs.SquareLemmas.{squared_distance_of}
use Rattle.distance_core.proofs.apart.squared_distance.Goals as goal

pub returns-clause-least : goal.returns-clause-least
returns-clause-least c =
    squared_distance_of c.args.a.now c.args.b.now _ _ (rw (c.x.ensures, c.x-2.ensures) at c.gap-dx.ensures.least)
    (rw (c.y.ensures, c.y-2.ensures) at c.gap-dy.ensures.least) _ refl
