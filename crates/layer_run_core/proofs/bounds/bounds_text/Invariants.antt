use Rattle.layer_run_core.proofs.BoundsLemmas.{HasFront}
use Rattle.layer_run_core.proofs.bounds.bounds_text.Given as goal

abbrev pub invariant-loop-feature : goal.invariant-loop-feature
invariant-loop-feature g l = HasFront g.G.Geometry.box_of l.writer l.feature-iterator l.features.features
