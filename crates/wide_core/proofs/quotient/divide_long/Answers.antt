use Rattle.std.proofs.Common.{◌≤◌, ◌<◌, ◌*◌, ◌^◌, arith, ℕ, subst, sym}
use Rattle.std.proofs.lemmas.Nat.{pow_pos}
use Rattle.wide_core.specs.Quotients.{IsFloor}
use Rattle.wide_core.proofs.QuotientLemmas.{leading, estimate, IsEstimate, shift_of, left, next_left, next_small, floor_left, ceiling_left}
use Rattle.wide_core.proofs.quotient.divide_long.Goals as goal

estimated : (a b c : ℕ) → a ≤ c → b < 2 ^ 61 → 2 ^ 64 ≤ c → c < 2 ^ 127 → IsEstimate a b c (2 ^ shift_of c)
estimated a b c part factor long divisor =
    let lead = leading c long divisor in
    estimate a b c (2 ^ shift_of c) (pow_pos (shift_of c)) part factor lead.from lead.below

pub overflow_sub-shift : goal.overflow_sub-shift
overflow_sub-shift c = (leading c.args.c c.requires.long c.requires.divisor).few

pub overflow_mul-low : goal.overflow_mul-low
overflow_mul-low c =
    let est = estimated c.args.a c.args.b c.args.c c.requires.part c.requires.factor c.requires.long c.requires.divisor in
    record { fits = est.fits }

pub overflow_cast-low-then-rest-c : goal.overflow_cast-low-then-rest-c
overflow_cast-low-then-rest-c c =
    let est = estimated c.args.a c.args.b c.args.c c.requires.part c.requires.factor c.requires.long c.requires.divisor in
    record { fits = omega (arith, est.small, c.requires.factor) }

pub overflow_cast-low-else-rest-c : goal.overflow_cast-low-else-rest-c
overflow_cast-low-else-rest-c c =
    let est = estimated c.args.a c.args.b c.args.c c.requires.part c.requires.factor c.requires.long c.requires.divisor in
    record { fits = omega (arith, est.small, c.requires.factor) }

pub overflow_add-low-else-rest-c : goal.overflow_add-low-else-rest-c
overflow_add-low-else-rest-c c =
    let est = estimated c.args.a c.args.b c.args.c c.requires.part c.requires.factor c.requires.long c.requires.divisor in
    record { fits = omega (arith, est.small, c.requires.factor) }

pub rounded-requires : goal.rounded-requires
rounded-requires c =
    let est = estimated c.args.a c.args.b c.args.c c.requires.part c.requires.factor c.requires.long c.requires.divisor in
    omega (arith, est.small, c.requires.factor)

pub rounded-requires-else-rest-c : goal.rounded-requires-else-rest-c
rounded-requires-else-rest-c c =
    let est = estimated c.args.a c.args.b c.args.c c.requires.part c.requires.factor c.requires.long c.requires.divisor in
    omega (arith, est.small, c.requires.factor)

pub returns-then-rest-c-clause-floor : goal.returns-then-rest-c-clause-floor
returns-then-rest-c-clause-floor c =
    let r = c.requires in
    let q = estimated c.args.a c.args.b c.args.c r.part r.factor r.long r.divisor in
    subst (IsFloor (c.args.a * c.args.b) c.args.c) (sym c.rounded.ensures.floor)
    (floor_left (c.args.a * c.args.b) c.args.c _ _ (left (c.args.a * c.args.b) c.args.c _ q.low q.high r.divisor) c.if-rest-c.true)

pub returns-then-rest-c-clause-ceiling : goal.returns-then-rest-c-clause-ceiling
returns-then-rest-c-clause-ceiling c =
    let r = c.requires in
    let q = estimated c.args.a c.args.b c.args.c r.part r.factor r.long r.divisor in
    ceiling_left (c.args.a * c.args.b) c.args.c _ _ _ (left (c.args.a * c.args.b) c.args.c _ q.low q.high r.divisor) c.if-rest-c.true c.rounded.ensures.whole c.rounded.ensures.part

pub returns-else-rest-c-clause-floor : goal.returns-else-rest-c-clause-floor
returns-else-rest-c-clause-floor c =
    let r = c.requires in
    let q = estimated c.args.a c.args.b c.args.c r.part r.factor r.long r.divisor in
    let l = left (c.args.a * c.args.b) c.args.c _ q.low q.high r.divisor in
    subst (IsFloor (c.args.a * c.args.b) c.args.c) (sym c.rounded-else-rest-c.ensures.floor)
    (floor_left (c.args.a * c.args.b) c.args.c _ _ (next_left _ c.args.c _ _ l c.if-rest-c.false) (next_small _ c.args.c _ _ l q.high c.if-rest-c.false))

pub returns-else-rest-c-clause-ceiling : goal.returns-else-rest-c-clause-ceiling
returns-else-rest-c-clause-ceiling c =
    let r = c.requires in
    let q = estimated c.args.a c.args.b c.args.c r.part r.factor r.long r.divisor in
    let l = left (c.args.a * c.args.b) c.args.c _ q.low q.high r.divisor in
    ceiling_left (c.args.a * c.args.b) c.args.c _ _ _ (next_left _ c.args.c _ _ l c.if-rest-c.false) (next_small _ c.args.c _ _ l q.high c.if-rest-c.false)
    c.rounded-else-rest-c.ensures.whole c.rounded-else-rest-c.ensures.part
