use Rattle.prepared_core.specs.Prepared.{ArePrepared}
use Rattle.prepared_core.proofs.layer.prepared_features.Given as goal

abbrev pub invariant-loop-number : goal.invariant-loop-number
invariant-loop-number g l = ArePrepared g.M.Preparation.is_form l.layer.list l.features.items
