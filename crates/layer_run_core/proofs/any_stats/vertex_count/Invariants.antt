use Rattle.std.proofs.Common.{◌≡◌, ◌+◌}
use Rattle.layer_run_core.specs.AnyStats.{vertices_in}
use Rattle.layer_run_core.proofs.any_stats.vertex_count.Given as goal

abbrev pub invariant-loop-feature : goal.invariant-loop-feature
invariant-loop-feature l = l.count + vertices_in l.feature-iterator ≡ vertices_in l.initial.feature-iterator
