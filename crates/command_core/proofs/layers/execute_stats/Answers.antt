use Rattle.format_core.specs.Formats.{ReadsAny}
use Rattle.format_core.specs.Layouts.{laid_out}
use Rattle.run_core.specs.ImproperRings.{AreRingsImproper}
use Rattle.words_core.specs.declared.condition.Geometries.TheVariants.{Box, Any}
use Rattle.command_core.specs.LayerResults.{GivesCounts}
use Rattle.command_core.proofs.LayerCommandLemmas.{stats_runs, layer_unready, layer_ran, of_kind}
use Rattle.command_core.proofs.KnownLemmas.{layer_marks}
use Rattle.command_core.proofs.SkipLemmas.{on_ok}
use Rattle.command_core.proofs.layers.execute_stats.Goals as goal

pub returns-in_err-layer-clause-ends : goal.returns-in_err-layer-clause-ends
returns-in_err-layer-clause-ends g c =
    layer_unready _ _ _ _ (stats_runs c.args.request.now) _ c.from_residual.result _ c.requires.output c.from_residual.ensures.1 c.in_err-layer.ensures.fault

pub returns-in-Box-clause-ends : goal.returns-in-Box-clause-ends
returns-in-Box-clause-ends g c =
    layer_ran _ _ _ _ (stats_runs c.args.request.now) _ _ _ _ c.in_ok-layer.ensures.ok
    (of_kind GivesCounts Box _ _ _ _ _ _ _ c.in-Box.is c.run_stats.ensures)

pub returns-clause-ends : goal.returns-clause-ends
returns-clause-ends g c =
    layer_ran _ _ _ _ (stats_runs c.args.request.now) _ _ _ _ c.in_ok-layer.ensures.ok
    (of_kind GivesCounts (Any c.in-Any.rings) _ _ _ _ _ _ _ c.in-Any.is c.run_any_stats.ensures.runs)

pub returns-in-Box-clause-rows : goal.returns-in-Box-clause-rows
returns-in-Box-clause-rows g c = rw c.in-Box.is (on_ok c.run_stats.result _ c.requires.none)

pub returns-clause-rows : goal.returns-clause-rows
returns-clause-rows g c =
    let request = c.args.request.now in
    let reads = laid_out request.layout (ReadsAny request.scale c.in-Any.rings) in
    rw c.in-Any.is (layer_marks c.run_any_stats.result _ _ _ c.in_ok-layer.ensures.ok reads (AreRingsImproper c.in-Any.rings) _ c.run_any_stats.ensures.improper)
