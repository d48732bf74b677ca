use Rattle.std.proofs.Common.{arith, rules}
use Rattle.split_core.proofs.SplitLemmas.{are_groups}
use Rattle.split_core.proofs.split.split.Goals as goal

pub returns-clause-groups : goal.returns-clause-groups
returns-clause-groups g c =
    are_groups g.T.Covered.cover _ _ _ (omega (arith, c.requires.nine, c.args.rest.now.ok.0)) (search rules)
