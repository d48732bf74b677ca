-- The results of reading two layers, given the bytes read and the layers built.
use Rattle.std.proofs.Common.{◌≡◌, ◌≢◌, ◌<◌, ◌⊎◌, ℕ, List, Option, Some, None, Result, Ok, Err, IsErrAnd, IfSome, IfErr, length, map}
use Rattle.std.proofs.Common.{refl, sym, subst, inl, inr}
use Rattle.std.specs.Result.{result_err}
use Rattle.format_core.specs.Layouts.{Reading}
use Rattle.row_core.specs.declared.read_fault.ReadFault.{ReadFault}
use Rattle.row_core.specs.declared.read_fault.ReadFault.TheVariants as read_faults
use Rattle.file_core.specs.LayerFiles.{LayerRowGives}
use Rattle.row_core.specs.LayerRows.{form_at}
use Rattle.layer_core.specs.LayerTrees.{LayerState}
use Rattle.layer_core.specs.Layers.{Contents, empty}
use Rattle.row_core.specs.Limits.{most_file_bytes}
use Rattle.row_core.specs.Sources.{IsReadingFault}
use Rattle.row_core.proofs.FileLemmas.{table-unread}
use Rattle.run_core.specs.declared.fault.Input.TheVariants.{First, Second, Left, Right, Edits, Layer, Window}
use Rattle.run_core.specs.declared.fault.RunFault.{RunFault}
use Rattle.run_core.specs.declared.fault.RunFault.TheVariants.{NoFile, Read, Wkt, Geometry, Edit, Join, TooManyToDraw, Write, NotStored, Memory, NoKeys}
use Rattle.run_core.specs.Inputs.{LayerFile, LayerFileBy, LoadsLayer, SkipsRows, Builds, Reads, ReadsFeatures, BlamesBytes, BlamesInput}
use Rattle.file_core.specs.declared.skipped.Unreadable.{Unreadable}
use Rattle.file_core.specs.declared.skipped.Unreadable.TheVariants.{Refuse, Skip}
use Rattle.file_core.specs.declared.skipped.WithSkipped.{WithSkipped}
use Rattle.file_core.specs.SkippedRows.{IsLayerFileBy, LoadsFile, LoadsRow, SkippedContent, begun, skipped_content, with_skipped_or}
use Rattle.file_core.proofs.LoadedLemmas.{file_fault, file_layer}
use Rattle.run_core.specs.EditedLayers.{JoinFiles, LayersGive, left_fault, left_reads, right_fault, right_reads, first_fault, IsLayersFault, IsJoinFault}
use Rattle.run_core.proofs.EditedLayersLemmas.{handed_on, IsJoinKind}

-- a source that isn't read to its end gives no layer
pub unread_blamed : {G : Type 0} (format : Reading G) (known : Option (List ℕ)) (f : ReadFault) → IsReadingFault f
    → (f ≡ read_faults.TooLong → IfSome known (λ bytes. most_file_bytes format.limits < length bytes)) → BlamesBytes f → LayerFile format known (Err f)
unread_blamed format known f reading long blame =
    table-unread format.limits format.layout (λ places. LayerRowGives (form_at format places)) empty known f reading long (λ e. subst BlamesBytes e blame) (λ e. subst BlamesBytes e blame)

-- however it is read
pub unread_by : {G : Type 0} (format : Reading G) (unreadable : Unreadable) (known : Option (List ℕ)) (f : ReadFault) → IsReadingFault f
    → (f ≡ read_faults.TooLong → IfSome known (λ bytes. most_file_bytes format.limits < length bytes)) → BlamesBytes f → LayerFileBy format unreadable known (Err f)
unread_by format Refuse known f reading long blame = unread_blamed format known f reading long blame
unread_by format Skip known f reading long blame =
    table-unread format.limits format.layout (λ places. LoadsRow (form_at format places)) (begun Skip) known f reading long (λ e. subst BlamesBytes e blame) (λ e. subst BlamesBytes e blame)

-- a source that isn't read to its end is read as a fault
pub unread : {G : Type 0} (format : Reading G) (known : Option (List ℕ)) (out : Result (Contents G) ReadFault) (f : ReadFault) → IsErrAnd out (λ x. x ≡ f)
    → IsReadingFault f → (f ≡ read_faults.TooLong → IfSome known (λ bytes. most_file_bytes format.limits < length bytes)) → ReadsFeatures format known out
unread format known (Ok layer) f is reading long = absurd is
unread format known (Err g) f is reading long = record {
  ok = tt;
  fault = λ blame. subst (λ (x : ReadFault). LayerFile format known (Err x)) (sym is) (unread_blamed format known f reading long (subst BlamesBytes is blame));
}

-- the layer that was loaded is that of the file
pub loads_layer : {G : Type 0} (format : Reading G) (unreadable : Unreadable) (known : Option (List ℕ)) (layer : Contents G) (rows : List SkippedContent)
    → LoadsLayer format unreadable known layer rows → LayerFileBy format unreadable known (Ok layer)
loads_layer format unreadable None layer rows loads = tt
loads_layer format unreadable (Some bytes) layer rows loads = file_layer format unreadable bytes layer rows loads

-- and the rows that were skipped are those of the file
pub loads_rows : {G : Type 0} (format : Reading G) (unreadable : Unreadable) (known : Option (List ℕ)) (layer : Contents G) (rows : List SkippedContent)
    → LoadsLayer format unreadable known layer rows → SkipsRows format unreadable known rows
loads_rows format unreadable None layer rows loads = tt
loads_rows format unreadable (Some bytes) layer rows loads = (layer, loads)

module _ {G : Type 0} (format : Reading G) (unreadable : Unreadable) where
  -- the layer built of a source's bytes is that of its file
  pub built_blamed : (known : Option (List ℕ)) (items : List ℕ) (out : Result (WithSkipped (LayerState G)) ReadFault) (f : ReadFault)
      → IfSome known (λ bytes. items ≡ bytes) → Builds format unreadable items out → out ≡ Err f → BlamesBytes f
      → LayerFileBy format unreadable known (Err f)
  built_blamed None items out f same built is blame = tt
  built_blamed (Some bytes) items out f same built is blame =
      let no_memory : out ≢ Err read_faults.Memory = λ e. let m : f ≡ read_faults.Memory = cc in subst BlamesBytes m blame in
      let gives = subst (λ (r : Result (WithSkipped (LayerState G)) ReadFault).
      LoadsFile format unreadable items (with_skipped_or unreadable (λ layer. layer.list) r)) is (built.gives no_memory) in
      let fault = file_fault format unreadable items f gives in
      subst (λ (b : List ℕ). IsLayerFileBy format unreadable b (Err f)) same fault

  pub built_well : (known : Option (List ℕ)) (items : List ℕ) (out : Result (WithSkipped (LayerState G)) ReadFault) (layer : WithSkipped (LayerState G))
      → IfSome known (λ bytes. items ≡ bytes) → Builds format unreadable items out → out ≡ Ok layer
      → LoadsLayer format unreadable known layer.read.list (map skipped_content layer.skipped.items)
  built_well None items out layer same built is = tt
  built_well (Some bytes) items out layer same built is =
      let no_memory : out ≢ Err read_faults.Memory = λ e. absurd cc in
      let gives = subst (λ (r : Result (WithSkipped (LayerState G)) ReadFault).
      LoadsFile format unreadable items (with_skipped_or unreadable (λ layer. layer.list) r)) is (built.gives no_memory) in
      subst (λ (b : List ℕ). LoadsFile format unreadable b (Ok (record {
        unreadable = unreadable;
        list = layer.read.list;
        skipped = map skipped_content layer.skipped.items;
      }))) same gives

  -- a source that is read to its end is read as its layer
  pub built_reads : (known : Option (List ℕ)) (items : List ℕ) (out : Result (WithSkipped (LayerState G)) ReadFault)
      → IfSome known (λ bytes. items ≡ bytes) → Builds format unreadable items out → Reads format unreadable known out
  built_reads known items (Ok layer) same built = record { ok = built_well known items (Ok layer) layer same built refl; fault = tt }
  built_reads known items (Err f) same built = record { ok = tt; fault = λ blame. built_blamed known items (Err f) f same built refl blame }

  -- a source that isn't read to its end is read as a fault
  pub unread_layer : (known : Option (List ℕ)) (out : Result (WithSkipped (LayerState G)) ReadFault) (f : ReadFault) → IsErrAnd out (λ x. x ≡ f)
      → IsReadingFault f → (f ≡ read_faults.TooLong → IfSome known (λ bytes. most_file_bytes format.limits < length bytes)) → Reads format unreadable known out
  unread_layer known (Ok layer) f is reading long = absurd is
  unread_layer known (Err g) f is reading long = record {
    ok = tt;
    fault = λ blame. subst (λ (x : ReadFault). LayerFileBy format unreadable known (Err x)) (sym is)
        (unread_by format unreadable known f reading long (subst BlamesBytes is blame));
  }

  -- the result of reading a source blames it
  read_blamed : (known : Option (List ℕ)) (out : Result (WithSkipped (LayerState G)) ReadFault) (f : ReadFault)
      → Reads format unreadable known out → out ≡ Err f → BlamesBytes f → LayerFileBy format unreadable known (Err f)
  read_blamed known out f reads is =
      subst (λ (r : Result (WithSkipped (LayerState G)) ReadFault). IfErr r (λ x. BlamesBytes x → LayerFileBy format unreadable known (Err x))) is reads.fault

-- a fault of the right layer alone is reported
right_first : (f : ReadFault) → first_fault None f ≡ Read Right f
right_first read_faults.Io = refl
right_first read_faults.TooLong = refl
right_first (read_faults.Header beginning) = refl
right_first (read_faults.Row n) = refl
right_first (read_faults.Wkt n g any) = refl
right_first (read_faults.Geometry n g) = refl
right_first (read_faults.Layer n g) = refl
right_first read_faults.Memory = refl

-- of two faults the left one is reported, unless the right source failed
left_first : (g f : ReadFault) → (f ≡ read_faults.Io) ⊎ (first_fault (Some g) f ≡ Read Left g)
left_first g read_faults.Io = inl refl
left_first g read_faults.TooLong = inr refl
left_first g (read_faults.Header beginning) = inr refl
left_first g (read_faults.Row n) = inr refl
left_first g (read_faults.Wkt n h any) = inr refl
left_first g (read_faults.Geometry n h) = inr refl
left_first g (read_faults.Layer n h) = inr refl
left_first g read_faults.Memory = inr refl

-- a fault of two layers, the right one of which wasn't built, is one of their files
told_blamed : {G : Type 0} (as_left as_right : Reading G) (u : Unreadable) (left right : Option (List ℕ)) (items : List ℕ) (built out : Result (WithSkipped (LayerState G)) ReadFault)
    (f : ReadFault) → IfSome left (λ bytes. items ≡ bytes) → Builds as_left u items built → Reads as_right u right out → out ≡ Err f
    → IsLayersFault as_left as_right u left right (first_fault (result_err built) f)
told_blamed as_left as_right u left right items (Ok layer) out f same built reads is =
    let loads = built_well as_left u left items (Ok layer) layer same built refl in
    let rows = map skipped_content layer.skipped.items in
    subst (IsLayersFault as_left as_right u left right) (sym (right_first f))
    ((λ other. (layer.read.list, loads_layer as_left u left layer.read.list rows loads)), read_blamed as_right u right out f reads is)
told_blamed as_left as_right u left right items (Err g) out f same built reads is = elim (left_first g f) [
  | inl io ↦ subst (λ (x : ReadFault). IsLayersFault as_left as_right u left right (first_fault (Some g) x)) (sym io) ((λ other. absurd (other refl)), (λ blame. absurd blame))
  | inr told ↦ subst (IsLayersFault as_left as_right u left right) (sym told) (built_blamed as_left u left items (Err g) g same built refl)
]

pub first_blamed : {G : Type 0} (as_left as_right : Reading G) (u : Unreadable) (left right : Option (List ℕ)) (items : List ℕ)
    (built out : Result (WithSkipped (LayerState G)) ReadFault) (f : ReadFault) (e : RunFault) → IfSome left (λ bytes. items ≡ bytes) → Builds as_left u items built
    → Reads as_right u right out → out ≡ Err f → e ≡ first_fault (result_err built) f → IsLayersFault as_left as_right u left right e
first_blamed as_left as_right u left right items built out f e same gives reads is told =
    subst (IsLayersFault as_left as_right u left right) (sym told) (told_blamed as_left as_right u left right items built out f same gives reads is)

-- a fault of the two layers is a result of the files
layers_give : {G : Type 0} (files : JoinFiles G) (e : RunFault) → IsLayersFault (left_reads files) (right_reads files) files.unreadable files.left files.right e → BlamesInput e
    → LayersGive files (Err e)
layers_give files (Read Left f) fault blame = left_fault f (fault blame)
layers_give files (Read Right f) fault blame = let left = fault.0 (λ e. subst BlamesBytes e blame) in right_fault left.0 f left.1 (fault.1 blame)
layers_give files (Read First f) fault blame = absurd fault
layers_give files (Read Second f) fault blame = absurd fault
layers_give files (Read Edits f) fault blame = absurd fault
layers_give files (Read Layer f) fault blame = absurd fault
layers_give files (Read Window f) fault blame = absurd fault
layers_give files (NoFile i) fault blame = absurd fault
layers_give files (Wkt i f) fault blame = absurd fault
layers_give files (Geometry i f) fault blame = absurd fault
layers_give files (Edit row f) fault blame = absurd fault
layers_give files (Join f) fault blame = absurd fault
layers_give files TooManyToDraw fault blame = absurd fault
layers_give files Write fault blame = absurd fault
layers_give files NotStored fault blame = absurd fault
layers_give files Memory fault blame = absurd fault
layers_give files NoKeys fault blame = absurd fault

pub layers_blamed : {T : Type 0} {G : Type 0} (files : JoinFiles G) (out : Result T RunFault) (e : RunFault)
    → IsErrAnd out (λ x. x ≡ e) → IsLayersFault (left_reads files) (right_reads files) files.unreadable files.left files.right e
    → IfErr out (λ x. BlamesInput x → LayersGive files (Err x))
layers_blamed files out e h fault =
    handed_on (LayersGive files) out e e h refl (λ blame. layers_give files e fault blame)

module _ {G : Type 0} (as_left as_right : Reading G) (unreadable : Unreadable) (left right : Option (List ℕ)) where
  pub layers_join_kind : (e : RunFault) → IsLayersFault as_left as_right unreadable left right e → IsJoinKind e
  layers_join_kind (Read Left f) fault = tt
  layers_join_kind (Read Right f) fault = tt
  layers_join_kind (Read First f) fault = absurd fault
  layers_join_kind (Read Second f) fault = absurd fault
  layers_join_kind (Read Edits f) fault = absurd fault
  layers_join_kind (Read Layer f) fault = absurd fault
  layers_join_kind (Read Window f) fault = absurd fault
  layers_join_kind (NoFile i) fault = absurd fault
  layers_join_kind (Wkt i f) fault = absurd fault
  layers_join_kind (Geometry i f) fault = absurd fault
  layers_join_kind (Edit row f) fault = absurd fault
  layers_join_kind (Join f) fault = absurd fault
  layers_join_kind TooManyToDraw fault = absurd fault
  layers_join_kind Write fault = absurd fault
  layers_join_kind NotStored fault = absurd fault
  layers_join_kind Memory fault = absurd fault
  layers_join_kind NoKeys fault = absurd fault

  pub none_of_edits : (e : RunFault) → IsLayersFault as_left as_right unreadable left right e → e ≢ Read Edits read_faults.Io
  none_of_edits e fault is = subst (IsLayersFault as_left as_right unreadable left right) is fault

pub layers_join_fault : {G : Type 0} (files : JoinFiles G) (e : RunFault) → IsLayersFault (left_reads files) (right_reads files) files.unreadable files.left files.right e → IsJoinFault files e
layers_join_fault files (Read Left f) fault = tt
layers_join_fault files (Read Right f) fault = fault.0
layers_join_fault files (Read First f) fault = absurd fault
layers_join_fault files (Read Second f) fault = absurd fault
layers_join_fault files (Read Edits f) fault = absurd fault
layers_join_fault files (Read Layer f) fault = absurd fault
layers_join_fault files (Read Window f) fault = absurd fault
layers_join_fault files (NoFile i) fault = absurd fault
layers_join_fault files (Wkt i f) fault = absurd fault
layers_join_fault files (Geometry i f) fault = absurd fault
layers_join_fault files (Edit row f) fault = absurd fault
layers_join_fault files (Join f) fault = absurd fault
layers_join_fault files TooManyToDraw fault = absurd fault
layers_join_fault files Write fault = absurd fault
layers_join_fault files NotStored fault = absurd fault
layers_join_fault files Memory fault = absurd fault
layers_join_fault files NoKeys fault = absurd fault
