use Rattle.std.proofs.Common.{IsPermutation, subst, sym}
use Rattle.std.specs.Prelude.{Option}
use Rattle.nearest_core.specs.Queues.{measured_in}
use Rattle.nearest_core.specs.Steps.{with_one}
use Rattle.nearest_core.proofs.QueueLemmas.{measured_moved}
use Rattle.nearest_core.proofs.search.push_measured.Goals as goal

pub returns-in_ok-push-clause-added : goal.returns-in_ok-push-clause-added
returns-in_ok-push-clause-added g c =
    subst (λ (o : Option g.row.S.Denot). IsPermutation (with_one c.args.number o (measured_in c.args.measured.now)) (measured_in c.push.new.self)) (sym c.in-Some.is)
    (measured_moved g.S.Square.fraction _ _ c.in_ok-push.ensures.permutation)
