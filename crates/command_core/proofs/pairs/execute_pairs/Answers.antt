use Rattle.std.proofs.Common.{◌≡◌, ◌≢◌, ◌∙◌, ℕ, List, Option, IfErr, ap, subst}
use Rattle.std.specs.Borrow.{Bor}
use Rattle.run_core.specs.declared.fault.RunFault.TheVariants as run
use Rattle.run_core.specs.EditedLayers.{skipped_lists}
use Rattle.words_core.specs.declared.words.LayerPaths.{LayerPaths}
use Rattle.command_core.specs.Requests.{asks, command_of}
use Rattle.command_core.specs.Skipping.{IsStoreFault, counts_for}
use Rattle.command_core.proofs.KnownLemmas.{improper_known}
use Rattle.command_core.proofs.PairCommandLemmas.{making_at, missing_at, not_opened, not_written, opened_at, request_asks, rows_skipped, run_failed, run_made, without_keys}
use Rattle.command_core.proofs.SkipLemmas.{missing_writes, no_rows, not_ok, on_ok, skips_nothing}
use Rattle.command_core.proofs.pairs.execute_pairs.Goals as goal

-- `c.paths-paths` are the paths of the request

pub returns-in_err-sources-clause-ends : goal.returns-in_err-sources-clause-ends
returns-in_err-sources-clause-ends g c =
    not_opened _ _ _ _ _ _ (request_asks c.args.request.now) _ c.from_residual.result _
    (missing_at _ _ _ _ c.paths-paths.ensures c.in_err-sources.ensures.missing) c.requires c.from_residual.ensures.1

pub returns-in_err-sources-clause-skips : goal.returns-in_err-sources-clause-skips
returns-in_err-sources-clause-skips g c =
    let r = c.from_residual in (
      no_rows,
      skips_nothing _ (command_of c.args.request.now) _ no_rows r.result _ r.ensures.1 (missing_writes _ _ _ c.in_err-sources.ensures.missing),
      not_ok r.result _ _ r.ensures.1,
    )

pub returns-in_err-states-clause-ends : goal.returns-in_err-states-clause-ends
returns-in_err-states-clause-ends g c =
    let request = c.args.request.now in
    let r = c.from_residual-in_err-states in
    let opened = opened_at (asks request) _ c.paths-paths.ensures _ _ c.in_ok-sources.ensures.opened in
    without_keys _ _ _ _ _ _ (request_asks request) _ r.result _ _ c.requires r.ensures.1 c.in_err-states.ensures opened

pub returns-in_err-states-clause-skips : goal.returns-in_err-states-clause-skips
returns-in_err-states-clause-skips g c =
    let r = c.from_residual-in_err-states in (
      no_rows,
      skips_nothing _ (command_of c.args.request.now) _ no_rows r.result _ r.ensures.1 (λ w. let keys = c.in_err-states.ensures in cc),
      not_ok r.result _ _ r.ensures.1,
    )

pub returns-in_err-made-clause-ends : goal.returns-in_err-made-clause-ends
returns-in_err-made-clause-ends g c =
    let request = c.args.request.now in
    let r = c.from_residual-in_err-made in
    let opened = opened_at (asks request) _ c.paths-paths.ensures _ _ c.in_ok-sources.ensures.opened in
    let making = making_at (asks request) _ c.paths-paths.ensures _ _ c.in_ok-sources.ensures.opened _ _ _ _ c.unreadable_for-unreadable.ensures c.in_err-made.ensures in
    run_failed _ _ _ _ _ _ (request_asks request) _ _ r.result _ opened c.requires r.ensures.1 making.fault making.faults

pub returns-in_err-made-clause-skips : goal.returns-in_err-made-clause-skips
returns-in_err-made-clause-skips g c =
    let r = c.from_residual-in_err-made in (
      no_rows,
      skips_nothing _ (command_of c.args.request.now) _ no_rows r.result _ r.ensures.1 (not_written _ _ _ c.in_err-made.ensures.faults),
      not_ok r.result _ _ r.ensures.1,
    )

pub returns-clause-ends : goal.returns-clause-ends
returns-clause-ends g c =
    let request = c.args.request.now in
    let out = c.write_made.result in
    let opened = opened_at (asks request) _ c.paths-paths.ensures _ _ c.in_ok-sources.ensures.opened in
    let making = making_at (asks request) _ c.paths-paths.ensures _ _ c.in_ok-sources.ensures.opened _ _ _ _ c.unreadable_for-unreadable.ensures c.in_ok-made.ensures in
    run_made _ _ _ _ _ _ (request_asks request) _ _ _ out _ opened making.ok c.write_made.ensures.writes
    (subst (λ (p : LayerPaths). IfErr out (λ f. f ≢ run.Write → IsStoreFault p.skip f)) c.paths-paths.ensures c.write_made.ensures.faults)

pub returns-clause-skips : goal.returns-clause-skips
returns-clause-skips g c =
    let request = c.args.request.now in
    let rows = skipped_lists c.in_ok-made.made.skipped in
    let making = making_at (asks request) _ c.paths-paths.ensures _ _ c.in_ok-sources.ensures.opened _ _ _ _ c.unreadable_for-unreadable.ensures c.in_ok-made.ensures in (
      rows,
      rows_skipped (asks request) _ c.paths-paths.ensures _ _ c.in_ok-sources.ensures.opened (command_of request) (request_asks request) _ _ rows c.write_made.result making.skipped
          c.write_made.ensures.stores,
      on_ok c.write_made.result _ (subst (λ (s : Option (Bor (List ℕ))). c.counts_for.result ≡ counts_for s rows)
          (ap (λ (p : LayerPaths). p.skip) c.paths-paths.ensures ∙ (request_asks request).skip) c.counts_for.ensures),
    )

pub returns-clause-rows : goal.returns-clause-rows
returns-clause-rows g c =
    let request = c.args.request.now in
    let opened = opened_at (asks request) _ c.paths-paths.ensures _ _ c.in_ok-sources.ensures.opened in
    let making = making_at (asks request) _ c.paths-paths.ensures _ _ c.in_ok-sources.ensures.opened _ _ _ _ c.unreadable_for-unreadable.ensures c.in_ok-made.ensures in
    on_ok c.write_made.result _ (improper_known (asks request) _ _ opened _ (record { improper = making.marked; none = making.unmarked }))
