use Rattle.std.proofs.Common.{Ok, map, subst}
use Rattle.file_core.specs.declared.skipped.Unreadable.{Unreadable}
use Rattle.file_core.specs.SkippedRows.{LoadsFile, loaded_of, skipped_content}
use Rattle.file_core.proofs.LoadedLemmas.{file_keeps}
use Rattle.file_core.proofs.layer_file.LayerReader.load_features.Goals as goal

pub returns-clause-file : goal.returns-clause-file
returns-clause-file g c known =
    let reads = g.F.Format.reads c.args.self.now.format in
    let loading = c.in_ok-features.field-0 in
    let unreadable = c.args.unreadable in
    let loads = c.in_ok-features.ensures.file (λ e. let none = e in cc) in
    let P : Unreadable → Type 0 = λ u.
    LoadsFile reads unreadable c.args.bytes.now (Ok (record { unreadable = u; list = loading.features; skipped = map skipped_content loading.skipped.items })) in
    rw c.in_ok-finish.ensures (subst P (file_keeps reads unreadable c.args.bytes.now (loaded_of loading) loads) loads)
