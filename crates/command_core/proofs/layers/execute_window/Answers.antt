use Rattle.format_core.specs.Formats.{ReadsAny}
use Rattle.format_core.specs.Layouts.{laid_out}
use Rattle.run_core.specs.ImproperRings.{AreRingsImproper}
use Rattle.words_core.specs.declared.condition.Geometries.TheVariants.{Box, Any}
use Rattle.command_core.proofs.LayerCommandLemmas.{window_runs, layer_unready, layer_ran, window_of_kind}
use Rattle.command_core.proofs.KnownLemmas.{layer_marks}
use Rattle.command_core.proofs.SkipLemmas.{on_ok}
use Rattle.command_core.proofs.layers.execute_window.Goals as goal

pub returns-in_err-layer-clause-ends : goal.returns-in_err-layer-clause-ends
returns-in_err-layer-clause-ends g c =
    layer_unready _ _ _ _ (window_runs c.args.request.now c.args.wkt) _ c.from_residual.result _ c.requires.output c.from_residual.ensures.1
    c.in_err-layer.ensures.fault

pub returns-in-Box-clause-ends : goal.returns-in-Box-clause-ends
returns-in-Box-clause-ends g c =
    layer_ran _ _ _ _ (window_runs c.args.request.now c.args.wkt) _ _ _ _ c.in_ok-layer.ensures.ok
    (window_of_kind Box _ _ _ _ _ _ _ _ _ c.in-Box.is c.as_bytes-wkt.ensures.value c.run_window.ensures)

pub returns-clause-ends : goal.returns-clause-ends
returns-clause-ends g c =
    layer_ran _ _ _ _ (window_runs c.args.request.now c.args.wkt) _ _ _ _ c.in_ok-layer.ensures.ok
    (window_of_kind (Any c.in-Any.rings) _ _ _ _ _ _ _ _ _ c.in-Any.is c.as_bytes-wkt.ensures.value c.run_any_window.ensures.runs)

pub returns-in-Box-clause-rows : goal.returns-in-Box-clause-rows
returns-in-Box-clause-rows g c = rw c.in-Box.is (on_ok c.run_window.result _ c.requires.none)

pub returns-clause-rows : goal.returns-clause-rows
returns-clause-rows g c =
    let request = c.args.request.now in
    let reads = laid_out request.layout (ReadsAny request.scale c.in-Any.rings) in
    rw c.in-Any.is (layer_marks c.run_any_window.result _ _ _ c.in_ok-layer.ensures.ok reads (AreRingsImproper c.in-Any.rings) _ c.run_any_window.ensures.improper)
