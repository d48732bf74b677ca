use Rattle.std.proofs.Common.{arith, rules}
use Rattle.split_core.proofs.SeedLemmas.{best_row, best_next_row, best_pair}
use Rattle.split_core.proofs.choices.best_of_row.Goals as goal

pub loop-second-init : goal.loop-second-init
loop-second-init g c = best_row g.T.Covered.cover c.args.items.now c.args.first c.args.best c.requires.best

pub loop-second-preserved : goal.loop-second-preserved
loop-second-preserved g c =
    best_pair g.T.Covered.cover c.args.items.now c.args.first c.loop-second.second c.loop-second.best c.at-other.result _ (search) c.loop-second.invariant
    (search rules) (search rules) (omega arith) c.loop-second-test.true (search rules)

pub returns : goal.returns
returns g c = best_next_row g.T.Covered.cover c.args.items.now c.args.first c.loop-second.second c.loop-second.best c.loop-second-test.false
    c.loop-second.invariant
