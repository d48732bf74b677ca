use Rattle.std.proofs.Common.{◌+◌, ◌*◌, ◌/◌, ◌<◌, arith, subst}
use Rattle.double_core.specs.Decimals.{IsNear}
use Rattle.double_core.proofs.NearLemmas.{only_reads, only_above, only_below, only_few_units}
use Rattle.double_core.proofs.nearest.only_near.Goals as goal

pub returns-clause-some : goal.returns-clause-some
returns-clause-some c =
    let a = c.args in
    let d = c.power_of_two-parts.result in
    let above : a.above < 2 * d = omega arith in
    let below : a.below < 2 * d = omega arith in
    subst (λ p. IsNear a.odd a.above a.below a.value ((a.value + d / 2) / d * p)) c.power_of_two-parts.ensures.power
    (only_reads a.odd a.above a.below a.value d c.power_of_two-parts.ensures.some above below (omega arith) (omega arith))

pub returns-clause-few : goal.returns-clause-few
returns-clause-few c =
    let a = c.args in
    let d = c.power_of_two-parts.result in
    only_few_units a.odd a.above a.below a.value d c.power_of_two-parts.ensures.some (omega arith) (omega arith)

pub returns-then-half-below-clause-none : goal.returns-then-half-below-clause-none
returns-then-half-below-clause-none c = λ i.
    let a = c.args in
    let d = c.power_of_two-parts.result in
    let above : a.above < 2 * d = omega arith in
    let below : a.below < 2 * d = omega arith in
    subst (λ p. ¬ IsNear a.odd a.above a.below a.value (i * p)) c.power_of_two-parts.ensures.power
    (only_above a.odd a.above a.below a.value d c.power_of_two-parts.ensures.some above below (omega arith) i)

pub returns-then-rest-above-clause-none : goal.returns-then-rest-above-clause-none
returns-then-rest-above-clause-none c = λ i.
    let a = c.args in
    let d = c.power_of_two-parts.result in
    let above : a.above < 2 * d = omega arith in
    let below : a.below < 2 * d = omega arith in
    subst (λ p. ¬ IsNear a.odd a.above a.below a.value (i * p)) c.power_of_two-parts.ensures.power
    (only_below a.odd a.above a.below a.value d c.power_of_two-parts.ensures.some above below (omega arith) i)
