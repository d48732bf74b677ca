use Rattle.std.proofs.Common.{◌∙◌, length, ap, arith, rules, sym}
use Rattle.std.proofs.lemmas.Bool.{false≢true}
use Rattle.std.proofs.lemmas.Bool.Decides.{nat_tests}
use Rattle.words_core.proofs.DistanceLemmas.{none_left, none_spelled, nothing_spelled, read_to, some_few, some_spelled, spelled_parts}
use Rattle.words_core.proofs.reading.distance.lone_number.Goals as goal
use Rattle.words_core.proofs.reading.distance.lone_number.Goals.{else-number-via-then-number+else-is_empty, else-number-via-else-number}

pub returns-in_err-number-clause-none : goal.returns-in_err-number-clause-none
returns-in_err-number-clause-none c =
    let read = read_to c.args.scale c.args.text.now _ _ _
    c.distance.ensures.units c.limits.ensures c.in_err-number.ensures in
    rw c.from_residual.ensures (nothing_spelled _ _ read)

pub returns-then-is_empty-clause-some : goal.returns-then-is_empty-clause-some
returns-then-is_empty-clause-some c =
    let read = read_to c.args.scale c.args.text.now _ _ _
    c.distance.ensures.units c.limits.ensures c.in_ok-number.ensures in
    some_spelled _ _ _ _ _ read c.if-number.true (none_left _ (search rules))

pub returns-then-is_empty-clause-few : goal.returns-then-is_empty-clause-few
returns-then-is_empty-clause-few c =
    let read = read_to c.args.scale c.args.text.now _ _ _
    c.distance.ensures.units c.limits.ensures c.in_ok-number.ensures in
    some_few c.args.scale c.args.text.now _ _ _ read

pub returns-then-is_empty-clause-none : goal.returns-then-is_empty-clause-none
returns-then-is_empty-clause-none c =
    let read = read_to c.args.scale c.args.text.now _ _ _
    c.distance.ensures.units c.limits.ensures c.in_ok-number.ensures in
    none_spelled _ _ _ _ _ read

pub returns-else-number-clause-none : goal.returns-else-number-clause-none
returns-else-number-clause-none c = λ z few s.
    let read = read_to c.args.scale c.args.text.now _ _ _
    c.distance.ensures.units c.limits.ensures c.in_ok-number.ensures in
    let parts = spelled_parts _ _ _ _ _ z few read s in
    elim c.else-number.branch [
      | else-number-via-then-number+else-is_empty w ↦ let e = ap length parts.2 in absurd (grind (arith, nat_tests, e))
      | else-number-via-else-number w ↦ absurd (false≢true (sym w.if-number.false ∙ parts.1))
    ]
