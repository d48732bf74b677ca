use Rattle.std.proofs.Common.{◌≡◌, refl}
use Rattle.run_core.specs.declared.fault.Input.TheVariants.{Left, Right, Edits}
use Rattle.layer_core.specs.Edits.{both}
use Rattle.run_core.specs.declared.fault.RunFault.TheVariants.{Memory}
use Rattle.run_core.specs.EditedLayers.{files_by, left_reads, right_reads}
use Rattle.run_core.proofs.LayersLemmas.{layers_blamed, layers_join_fault, layers_join_kind, loads_layer, loads_rows, none_of_edits}
use Rattle.run_core.proofs.EditedLayersLemmas.{edits_blamed, edits_join_fault, layers_edited, is_join_fault, is_join_kind}
use Rattle.run_core.proofs.SourceLemmas.{edits_io, edits_unread, failed_at, io_before, io_handed_on}
use Rattle.run_core.proofs.MarkLemmas.{late_memory, marks_file, none_listed, memory_blames, memory_is, memory_kind}
use Rattle.run_core.proofs.TextRunLemmas.{none_loaded}
use Rattle.run_core.proofs.edited.load.Goals as goal

pub returns-in_err-loaded : goal.returns-in_err-loaded
returns-in_err-loaded g c =
    let format = g.F.Format.reads c.args.reader.now.format in
    let files = files_by c.args.unreadable format g.A.Source.remaining g.B.Source.remaining g.E.Source.remaining c.args.sources.now in
    let r = c.from_residual in
    let loaded = c.in_err-loaded.ensures in
    none_loaded _ files _ _ r.result _ r.ensures.1 (layers_blamed files r.result _ r.ensures.1 loaded.fault)
    (is_join_fault files r.result _ _ r.ensures.1 refl (layers_join_fault files _ loaded.fault))
    (failed_at _ _ _ r.result
    (io_handed_on r.result _ _ _ r.ensures.1 loaded.left_io)
    (io_handed_on r.result _ _ _ r.ensures.1 loaded.right_io)
    (edits_unread _ _ r.result _ c.requires.edits r.ensures.1 (none_of_edits (left_reads files) (right_reads files) c.args.unreadable _ _ _ loaded.fault))
    (is_join_kind r.result _ _ r.ensures.1 refl (layers_join_kind (left_reads files) (right_reads files) c.args.unreadable _ _ _ loaded.fault)))

pub returns-in_err-edited : goal.returns-in_err-edited
returns-in_err-edited g c =
    let format = g.F.Format.reads c.args.reader.now.format in
    let files = files_by c.args.unreadable format g.A.Source.remaining g.B.Source.remaining g.E.Source.remaining c.args.sources.now in
    let r = c.from_residual-in_err-edited in
    let loaded = c.in_ok-loaded.ensures in
    let edited = c.in_err-edited.ensures in
    let left = loads_layer (left_reads files) files.unreadable files.left _ _ loaded.left in
    let right = loads_layer (right_reads files) files.unreadable files.right _ _ loaded.right in
    let layers = c.in_ok-loaded.loaded.layers in
    none_loaded _ files _ _ r.result _ r.ensures.1 (edits_blamed files _ _ left right r.result _ r.ensures.1 edited.fault)
    (edits_join_fault files _ _ left right r.result _ r.ensures.1 edited.fault)
    (edits_io {layers = both layers.0.list layers.1.list} _ _ _ r.result _ _ r.ensures.1 edited.fault loaded.left_io loaded.right_io edited.io)

pub returns-in_err-rows : goal.returns-in_err-rows
returns-in_err-rows g c =
    let format = g.F.Format.reads c.args.reader.now.format in
    let files = files_by c.args.unreadable format g.A.Source.remaining g.B.Source.remaining g.E.Source.remaining c.args.sources.now in
    let r = c.from_residual-in_err-rows in
    let is = memory_is r.result _ r.ensures.1 c.in_err-rows.ensures.err in
    let loaded = c.in_ok-loaded.ensures in
    let given = layers_edited files _ _ (loads_layer (left_reads files) files.unreadable files.left _ _ loaded.left)
    (loads_layer (right_reads files) files.unreadable files.right _ _ loaded.right) _ c.in_ok-edited.ensures.ok in
    none_loaded _ files _ _ r.result _ r.ensures.1 (memory_blames r.result _ is) (late_memory files _ r.result given is)
    (failed_at _ _ _ r.result
    (io_before r.result Left _ (λ f. f ≡ Memory) (λ f q. absurd cc) _ loaded.left_io is)
    (io_before r.result Right _ (λ f. f ≡ Memory) (λ f q. absurd cc) _ loaded.right_io is)
    (io_before r.result Edits _ (λ f. f ≡ Memory) (λ f q. absurd cc) _ c.in_ok-edited.ensures.io is)
    (memory_kind r.result is))

pub returns : goal.returns
returns g c =
    let format = g.F.Format.reads c.args.reader.now.format in
    let files = files_by c.args.unreadable format g.A.Source.remaining g.B.Source.remaining g.E.Source.remaining c.args.sources.now in
    let loaded = c.in_ok-loaded.ensures in
    let rows = c.in_ok-rows.ensures in
    record {
      ok = layers_edited files _ _ (loads_layer (left_reads files) files.unreadable files.left _ _ loaded.left)
          (loads_layer (right_reads files) files.unreadable files.right _ _ loaded.right) _ c.in_ok-edited.ensures.ok;
      skipped = record {
        left = loads_rows (left_reads files) files.unreadable files.left _ _ loaded.left;
        right = loads_rows (right_reads files) files.unreadable files.right _ _ loaded.right;
      };
      marked = record {
        left = marks_file _ (left_reads files) files.unreadable files.left _ _ _ loaded.left rows.left;
        right = marks_file _ (right_reads files) files.unreadable files.right _ _ _ loaded.right rows.right;
      };
      unmarked = λ lacks. none_listed _ lacks _ _ _ _ _ _ _ rows.left rows.right;
      fault = tt;
      faults = tt;
      io = failed_at _ _ _ _
          (io_before _ Left _ (λ _. ⊥) (λ f none. none) _ loaded.left_io tt)
          (io_before _ Right _ (λ _. ⊥) (λ f none. none) _ loaded.right_io tt)
          (io_before _ Edits _ (λ _. ⊥) (λ f none. none) _ c.in_ok-edited.ensures.io tt)
          tt;
    }
