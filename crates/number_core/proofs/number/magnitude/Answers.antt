use Rattle.std.proofs.Common.{◌≡◌, ℕ, ◌-◌, List, length, take, drop, arith, rules}
use Rattle.std.proofs.lemmas.List.{take_all, length-drop}
use Rattle.number_core.proofs.number.magnitude.Goals as goal

behind : (text : List ℕ) → take (length text - 6) (drop 6 text) ≡ drop 6 text
behind text = take_all (length text - 6) (drop 6 text) (omega (arith, length-drop 6 text))

pub returns-clause-value : goal.returns-clause-value
returns-clause-value c =
    let e : c.loop-i.i ≡ 6 = omega arith in
    let same = rw e at c.loop-i.invariant.sum in
    let tail = behind c.args.text.now in
    search rules

pub returns-clause-rest : goal.returns-clause-rest
returns-clause-rest c =
    let e : c.loop-i.i ≡ 6 = omega arith in
    let same = rw e at c.loop-i.invariant.rest in
    let tail = behind c.args.text.now in
    cc
