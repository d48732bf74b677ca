use Rattle.std.proofs.Common.{take}
use Rattle.refine_core.specs.Refinements.{AreRefined}
use Rattle.refine_core.proofs.worker.refine_each.Given as goal

abbrev pub invariant-loop-pair : goal.invariant-loop-pair
invariant-loop-pair g l =
    AreRefined (g.C.Condition.stands l.condition) (g.C.Condition.answers l.condition) (take l.pair-index l.pairs) l.refined.items
