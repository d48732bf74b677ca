use Rattle.std.proofs.Common.{arith}
use Rattle.std.proofs.lemmas.Int.{ints}
use Rattle.words_core.proofs.DistanceLemmas.{is_distance, no_distance, one_spelled}
use Rattle.words_core.proofs.reading.distance.distance_of.Goals as goal

pub returns-in_err-units-clause-none : goal.returns-in_err-units-clause-none
returns-in_err-units-clause-none c =
    rw c.from_residual.ensures (λ distance s. c.in_err-units.ensures.none _ s.allowed s.number)

pub returns-then-units-lt0-clause-none : goal.returns-then-units-lt0-clause-none
returns-then-units-lt0-clause-none c = λ distance s.
    let same = one_spelled _ _ _ _ c.in_ok-units.ensures.some s.number in
    omega (arith, ints, same)

pub returns-clause-some : goal.returns-clause-some
returns-clause-some c =
    is_distance _ _ _ _ _ c.in_ok-units.ensures.some c.in_ok-units.ensures.few
    (omega (arith, ints, c.if-units-lt0.false)) c.new.ensures.units

pub returns-clause-none : goal.returns-clause-none
returns-clause-none c = no_distance _ _ _ _ _ c.in_ok-units.ensures.some (omega (arith, ints, c.if-units-lt0.false)) c.new.ensures.some
