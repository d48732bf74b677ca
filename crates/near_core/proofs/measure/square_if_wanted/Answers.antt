use Rattle.near_core.proofs.WantedLemmas.{none_wanted, apart_wanted}
use Rattle.near_core.proofs.measure.square_if_wanted.Goals as goal

pub returns-then-is_zero-clause-wanted : goal.returns-then-is_zero-clause-wanted
returns-then-is_zero-clause-wanted g c =
    none_wanted g.G.Square.Square.fraction g.G.Planar.has_point g.met.G.Square.Square.has_denominator g.met.G.Planar.at_place
    c.args.nearness c.args.first.now c.args.second.now c.in-Apart.is c.in_ok-found.found c.in_ok-found.ensures.square (c.is_zero.ensures.0 c.if-is_zero.true)

pub returns-else-is_zero-clause-wanted : goal.returns-else-is_zero-clause-wanted
returns-else-is_zero-clause-wanted g c =
    apart_wanted g.G.Square.Square.fraction g.G.Planar.has_point g.met.G.Square.Square.has_denominator g.met.G.Planar.at_place
    c.args.nearness c.args.first.now c.args.second.now c.in-Apart.is c.in_ok-found.found c.in_ok-found.ensures.square c.in_ok-found.ensures.near
    (λ zero. let one = c.is_zero.ensures.1 zero in let none = c.if-is_zero.false in cc)
