use Rattle.std.proofs.Common.{◌≡◌, ◌*◌, ◌%◌, ◌^◌, ◌<◌, ◌∙◌, ℕ, arith, ap, ap₂}
use Rattle.std.specs.Prelude.{if◌then◌else◌}
use Rattle.double_core.specs.Doubles.{significand, is_edge}
use Rattle.double_core.proofs.BitsLemmas.{ten_some}
use Rattle.double_core.proofs.CoarseLemmas.{near_whole, not_near_whole, product_few, units_few}
use Rattle.double_core.proofs.shortest.only_units.Goals as goal

pub only_near-requires-clause-value : goal.only_near-requires-clause-value
only_near-requires-clause-value c =
    let less : c.from-significand.result < 2 ^ 53 = omega arith in
    omega (arith, product_few c.from-significand.result c.power_of_ten-step.result less c.power_of_ten-step.ensures.few)

pub returns-in-Some-clause-some : goal.returns-in-Some-clause-some
returns-in-Some-clause-some c =
    let step = c.power_of_ten-step.result in
    let tens = c.power_of_ten-step.ensures.power in
    let size = c.from-significand.result in
    let is : size ≡ significand c.args.bits = omega arith in
    let room = if is_edge c.args.bits then 1 else 2 in
    near_whole c.args.bits c.args.scale (size % 2) (2 * step) c.room_below-below.result (size * step) (2 ^ c.down.result) c.requires.finite c.requires.coarse
    (ap (λ (x : ℕ). x % 2) is) (ap (λ (x : ℕ). 2 * x) tens) (c.room_below-below.ensures.room ∙ ap (λ (x : ℕ). room * x) tens) (ap₂ (λ (x y : ℕ). x * y) is tens)
    c.down.ensures.power c.in-Some.number c.in-Some.ensures.some

pub returns-in-Some-clause-units : goal.returns-in-Some-clause-units
returns-in-Some-clause-units c =
    let less : c.from-significand.result < 2 ^ 53 = omega arith in
    units_few c.from-significand.result c.power_of_ten-step.result (10 ^ c.args.scale) c.in-Some.number less c.power_of_ten-step.ensures.power (ten_some c.args.scale) c.in-Some.ensures.few

pub returns-in-Some-clause-few : goal.returns-in-Some-clause-few
returns-in-Some-clause-few c =
    let less : c.from-significand.result < 2 ^ 53 = omega arith in
    omega (arith, c.in-Some.ensures.few, product_few c.from-significand.result c.power_of_ten-step.result less c.power_of_ten-step.ensures.few)

pub returns-in-None-clause-none : goal.returns-in-None-clause-none
returns-in-None-clause-none c =
    let step = c.power_of_ten-step.result in
    let tens = c.power_of_ten-step.ensures.power in
    let size = c.from-significand.result in
    let is : size ≡ significand c.args.bits = omega arith in
    let room = if is_edge c.args.bits then 1 else 2 in
    not_near_whole c.args.bits c.args.scale (size % 2) (2 * step) c.room_below-below.result (size * step) (2 ^ c.down.result) c.requires.finite c.requires.coarse
    (ap (λ (x : ℕ). x % 2) is) (ap (λ (x : ℕ). 2 * x) tens) (c.room_below-below.ensures.room ∙ ap (λ (x : ℕ). room * x) tens) (ap₂ (λ (x y : ℕ). x * y) is tens)
    c.down.ensures.power c.in-None.ensures.none
