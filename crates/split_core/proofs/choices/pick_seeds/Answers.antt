use Rattle.split_core.proofs.SeedLemmas.{best_none, best_all}
use Rattle.split_core.proofs.choices.pick_seeds.Goals as goal

pub loop-first-init : goal.loop-first-init
loop-first-init g c =
    best_none g.T.Covered.cover c.args.items.now c.at-best.result c.at-best.ensures.first c.at-best.ensures.second c.requires c.at-best.ensures.waste

pub returns : goal.returns
returns g c = best_all g.T.Covered.cover c.args.items.now c.loop-first.first c.loop-first.best c.loop-first-test.false c.loop-first.invariant
