use Rattle.std.proofs.Common.{◌≡◌, get_or, arith}
use Rattle.wkt_core.proofs.FormLemmas.{origin, some_four, none_four, some_five, none_five}
use Rattle.wkt_core.proofs.HeadingLemmas.{same_position}
use Rattle.wkt_core.proofs.form.ring.Goals as goal

pub returns-in-len4-clause-some : goal.returns-in-len4-clause-some
returns-in-len4-clause-some c =
    let closed : c.args.last.now ≡ get_or c.args.turns.now 0 origin = same_position _ _ (grind arith) (grind arith) in
    some_four _ _ _ c.in-len4.len_at_least c.in-len4.len_below closed (search)

pub returns-in-len4-clause-none : goal.returns-in-len4-clause-none
returns-in-len4-clause-none c = none_four _ _ _ c.in-len4.len_at_least c.in-len4.len_below (search)

pub returns-in-len5-clause-some : goal.returns-in-len5-clause-some
returns-in-len5-clause-some c =
    let closed : c.args.last.now ≡ get_or c.args.turns.now 0 origin = same_position _ _ (grind arith) (grind arith) in
    some_five _ _ _ c.in-len5.len_at_least c.in-len5.len_below closed (cc) (search)

pub returns-in-len5-clause-none : goal.returns-in-len5-clause-none
returns-in-len5-clause-none c = none_five _ _ _ c.in-len5.len_at_least c.in-len5.len_below (search)
