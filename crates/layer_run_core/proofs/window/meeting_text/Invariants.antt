use Rattle.layer_run_core.proofs.WindowLemmas.{HasFront}
use Rattle.layer_run_core.proofs.window.meeting_text.Given as goal

abbrev pub invariant-loop-feature : goal.invariant-loop-feature
invariant-loop-feature g l = HasFront (g.W.Window.is_met l.window) l.writer l.feature-iterator l.features.features
