use Rattle.std.proofs.Common.{◌∙◌}
use Rattle.layer_run_core.proofs.BoundsLemmas.{header_written, row_written}
use Rattle.layer_run_core.proofs.bounds.bounds_text.Goals as goal

pub loop-feature-init : goal.loop-feature-init
loop-feature-init g c =
    header_written g.G.Geometry.box_of _ _ _ _ c.new_rows-writer.ensures c.in_ok-push_row.ensures
    (c.into_iter-feature-iterator.ensures.into_iter_gives ∙ c.iter-feature-items.ensures.features)

pub loop-feature-preserved : goal.loop-feature-preserved
loop-feature-preserved g c = row_written g.G.Geometry.box_of _ _ _ _ _ _ c.loop-feature.invariant c.in-Some.ensures.steps c.in_ok-push_bounds.ensures
