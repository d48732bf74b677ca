-- Loading a row: the numbers of rows, and loading without skipping any.
use Rattle.std.proofs.Common.{◌≡◌, ◌∙◌, ◌+◌, ℕ, List, [], ◌∷◌, ◌++◌, length, map, Option, Some, None, Result, Ok, Err, MatchResult, refl, sym, ap, arith, length-append, ◌≤◌, IsTrue}
use Rattle.std.specs.Fmt.{decimal}
use Rattle.std.proofs.lemmas.Bool.{le-leb}
use Rattle.std.proofs.lemmas.Fmt.{decimal_nonempty, length-decimal-le}
use Rattle.std.proofs.lemmas.List.{length-map, map-append}
use Rattle.format_core.specs.declared.text_fault.TextFault.{TextFault}
use Rattle.format_core.specs.Layouts.{Reading}
use Rattle.layer_core.specs.declared.fault.LayerFault.{LayerFault}
use Rattle.layer_core.specs.Layers.{Contents, empty, inserted}
use Rattle.layer_core.specs.Refusals.{insert_refusal, is_id}
use Rattle.file_core.specs.declared.loading.Loading.{Loading}
use Rattle.row_core.specs.declared.read_fault.ReadFault.{ReadFault}
use Rattle.file_core.specs.declared.skipped.SkippedRow.{SkippedRow}
use Rattle.file_core.specs.declared.skipped.Unreadable.{Unreadable}
use Rattle.file_core.specs.declared.skipped.Unreadable.TheVariants.{Refuse, Skip}
use Rattle.file_core.specs.LayerFiles.{IsLayerFile, LayerRowGives, id_in, refused_or, with_row, with_shape}
use Rattle.row_core.specs.LayerRows.{RowContent, RowForm, form_at}
use Rattle.row_core.specs.Records.{Record}
use Rattle.row_core.specs.Rows.{RowsGive}
use Rattle.row_core.specs.Tables.{Table}
use Rattle.file_core.specs.SkippedRows.{IsLayerFileBy, Loaded, LoadsFile, LoadsRow, begun, loaded_or, loaded_with, rows_in, SkippedContent, skipped_content, with_reading, with_unreadable}

-- ---- skipped rows, and the values that they stand for
pub length_skipped : (rows : List SkippedRow) → length (map skipped_content rows) ≡ length rows
length_skipped rows = length-map rows skipped_content

pub skipped_push : (rows new : List SkippedRow) (row : SkippedRow) → new ≡ rows ++ row ∷ []
    → map skipped_content new ≡ map skipped_content rows ++ skipped_content row ∷ []
skipped_push rows new row is = ap (map skipped_content) is ∙ map-append skipped_content rows (row ∷ [])

module _ {G : Type 0} where
  with_unreadable-next : (u : Unreadable) (n : ℕ) (loaded : Loaded G) (id : List ℕ) (fault : TextFault) (next : Loaded G)
      → with_unreadable u n loaded id fault ≡ Ok next → rows_in next ≡ rows_in loaded + 1
  with_unreadable-next Refuse n loaded id fault next given = let none = given in cc
  with_unreadable-next Skip n loaded id fault next given =
      let row : SkippedContent = record { row = n; id = id; fault = fault } in
      let last : Loaded G = record loaded { skipped = loaded.skipped ++ row ∷ [] } in
      let same : last ≡ next = cc in
      sym (ap rows_in same) ∙ omega (arith, length-append loaded.skipped (row ∷ []))

  with_reading-next : (n : ℕ) (loaded : Loaded G) (id : List ℕ) (shape : Result G TextFault) (next : Loaded G)
      → with_reading n loaded id shape ≡ Ok next → rows_in next ≡ rows_in loaded + 1
  with_reading-next n loaded id (Err fault) next given = with_unreadable-next loaded.unreadable n loaded id fault next given
  with_reading-next n loaded id (Ok shape) next given = by (insert_refusal loaded.list id) given
    where
      by : (fault : Option LayerFault) → refused_or n fault (record loaded { list = inserted loaded.list id shape }) ≡ Ok next
          → rows_in next ≡ rows_in loaded + 1
      by (Some fault) is = let none = is in cc
      by None is =
          let last : Loaded G = record loaded { list = inserted loaded.list id shape } in
          let same : last ≡ next = cc in
          sym (ap rows_in same) ∙ omega arith

  -- a row that is added uses a number
  pub loaded_with-next : (n : ℕ) (loaded : Loaded G) (row : RowContent G) (next : Loaded G) → loaded_with n loaded (Ok row) ≡ Ok next
      → rows_in next ≡ rows_in loaded + 1
  loaded_with-next n loaded row next given = with_reading-next n loaded (id_in n row.id) row.shape next given

  pub loaded_or-err : (loading : Result (Loading (Contents G)) ReadFault) (fault : ReadFault) → loaded_or loading ≡ Err fault → loading ≡ Err fault
  loaded_or-err (Ok l) fault is = let none = is in cc
  loaded_or-err (Err f) fault is = let same : f ≡ fault = cc in ap Err same

  -- ---- whether rows are skipped doesn't change

  unreadable_keeps : (u : Unreadable) (n : ℕ) (loaded : Loaded G) (id : List ℕ) (fault : TextFault) (next : Loaded G)
      → Ok next ≡ with_unreadable u n loaded id fault → next.unreadable ≡ loaded.unreadable
  unreadable_keeps Refuse n loaded id fault next is = let none = is in cc
  unreadable_keeps Skip n loaded id fault next is =
      let row : SkippedContent = record { row = n; id = id; fault = fault } in
      let last : Loaded G = record loaded { skipped = loaded.skipped ++ row ∷ [] } in
      let same : next ≡ last = cc in
      ap (λ l. l.unreadable) same

  reading_keeps : (n : ℕ) (loaded : Loaded G) (id : List ℕ) (shape : Result G TextFault) (next : Loaded G)
      → Ok next ≡ with_reading n loaded id shape → next.unreadable ≡ loaded.unreadable
  reading_keeps n loaded id (Err fault) next is = unreadable_keeps loaded.unreadable n loaded id fault next is
  reading_keeps n loaded id (Ok shape) next is = by (insert_refusal loaded.list id) is
    where
      by : (fault : Option LayerFault) → Ok next ≡ refused_or n fault (record loaded { list = inserted loaded.list id shape })
          → next.unreadable ≡ loaded.unreadable
      by (Some fault) e = let none = e in cc
      by None e =
          let last : Loaded G = record loaded { list = inserted loaded.list id shape } in
          let same : next ≡ last = cc in
          ap (λ l. l.unreadable) same

  row_keeps : (n : ℕ) (loaded : Loaded G) (content : Result (RowContent G) ReadFault) (next : Loaded G)
      → Ok next ≡ loaded_with n loaded content → next.unreadable ≡ loaded.unreadable
  row_keeps n loaded (Ok row) next is = reading_keeps n loaded (id_in n row.id) row.shape next is
  row_keeps n loaded (Err fault) next is = let none = is in cc

  rows_keep : (form : RowForm G) (n : ℕ) (loaded : Loaded G) (records : List Record) (last : Loaded G)
      → RowsGive (LoadsRow form) n loaded records (Ok last) → last.unreadable ≡ loaded.unreadable
  rows_keep form n loaded [] last gives = let same : last ≡ loaded = cc in ap (λ l. l.unreadable) same
  rows_keep form n loaded (row ∷ rows) last (next, (content, says, is), rest) = by next is rest (λ l gives. rows_keep form (n + 1) l rows last gives)
    where
      by : (next : Result (Loaded G) ReadFault) → next ≡ loaded_with n loaded content
          → MatchResult next (λ a. RowsGive (LoadsRow form) (n + 1) a rows (Ok last)) (λ fault. Ok last ≡ Err fault)
          → ((l : Loaded G) → RowsGive (LoadsRow form) (n + 1) l rows (Ok last) → last.unreadable ≡ l.unreadable)
          → last.unreadable ≡ loaded.unreadable
      by (Ok l) is rest more = more l rest ∙ row_keeps n loaded content l is
      by (Err fault) is rest more = let none = rest in cc

  pub file_keeps : (reads : Reading G) (unreadable : Unreadable) (bytes : List ℕ) (last : Loaded G) → LoadsFile reads unreadable bytes (Ok last)
      → last.unreadable ≡ unreadable
  file_keeps reads unreadable bytes last (table, are, gives) = by table gives
    where
      by : (table : Result Table ReadFault)
          → MatchResult table (λ t. RowsGive (LoadsRow (form_at reads t.places)) 1 (begun unreadable) t.rows (Ok last)) (λ fault. Ok last ≡ Err fault)
          → last.unreadable ≡ unreadable
      by (Ok t) gives = rows_keep (form_at reads t.places) 1 (begun unreadable) t.rows last gives
      by (Err fault) is = let none = is in cc

  -- ---- loading without skipping

  -- the layer of what was loaded, or the fault
  abbrev pub list_loaded : Result (Loaded G) ReadFault → Result (Contents G) ReadFault
  list_loaded (Ok loaded) = Ok loaded.list
  list_loaded (Err fault) = Err fault

  refused_shape : (n : ℕ) (loaded : Loaded G) (id : List ℕ) (shape : Result G TextFault) → loaded.unreadable ≡ Refuse
      → list_loaded (with_reading n loaded id shape) ≡ with_shape n loaded.list id shape
  refused_shape n loaded id (Err fault) refuses = rw refuses refl
  refused_shape n loaded id (Ok shape) refuses = by (insert_refusal loaded.list id)
    where
      by : (fault : Option LayerFault)
          → list_loaded (refused_or n fault (record loaded { list = inserted loaded.list id shape })) ≡ refused_or n fault (inserted loaded.list id shape)
      by (Some fault) = refl
      by None = refl

  refused_row : (n : ℕ) (loaded : Loaded G) (content : Result (RowContent G) ReadFault) → loaded.unreadable ≡ Refuse
      → list_loaded (loaded_with n loaded content) ≡ with_row n loaded.list content
  refused_row n loaded (Ok row) refuses = refused_shape n loaded (id_in n row.id) row.shape refuses
  refused_row n loaded (Err fault) refuses = refl

  rows_refused : (form : RowForm G) (n : ℕ) (loaded : Loaded G) (records : List Record) (answer : Result (Loaded G) ReadFault)
      → loaded.unreadable ≡ Refuse → RowsGive (LoadsRow form) n loaded records answer
      → RowsGive (LayerRowGives form) n loaded.list records (list_loaded answer)
  rows_refused form n loaded [] answer refuses gives = ap list_loaded gives
  rows_refused form n loaded (row ∷ rows) answer refuses (next, (content, says, is), rest) =
      by next is rest (λ l refuses gives. rows_refused form (n + 1) l rows answer refuses gives)
    where
      by : (next : Result (Loaded G) ReadFault) → next ≡ loaded_with n loaded content
          → MatchResult next (λ a. RowsGive (LoadsRow form) (n + 1) a rows answer) (λ fault. answer ≡ Err fault)
          → ((l : Loaded G) → l.unreadable ≡ Refuse → RowsGive (LoadsRow form) (n + 1) l rows answer
          → RowsGive (LayerRowGives form) (n + 1) l.list rows (list_loaded answer))
          → RowsGive (LayerRowGives form) n loaded.list (row ∷ rows) (list_loaded answer)
      by (Ok l) is rest more =
          (Ok l.list, (content, says, ap list_loaded is ∙ refused_row n loaded content refuses), more l (row_keeps n loaded content l is ∙ refuses) rest)
      by (Err fault) is rest more =
          (Err fault, (content, says, ap list_loaded is ∙ refused_row n loaded content refuses), ap list_loaded rest)

  -- a file that is read with all its rows
  pub file_refused : (reads : Reading G) (bytes : List ℕ) (answer : Result (Loaded G) ReadFault) → LoadsFile reads Refuse bytes answer
      → IsLayerFile reads bytes (list_loaded answer)
  file_refused reads bytes answer (table, are, gives) = (table, are, by table gives)
    where
      by : (table : Result Table ReadFault)
          → MatchResult table (λ t. RowsGive (LoadsRow (form_at reads t.places)) 1 (begun Refuse) t.rows answer) (λ fault. answer ≡ Err fault)
          → MatchResult table (λ t. RowsGive (LayerRowGives (form_at reads t.places)) 1 empty t.rows (list_loaded answer)) (λ fault. list_loaded answer ≡ Err fault)
      by (Ok t) gives = rows_refused (form_at reads t.places) 1 (begun Refuse) t.rows answer refl gives
      by (Err fault) is = ap list_loaded is

  -- ---- the layer of what was loaded

  -- the layer of the rows that were not skipped is that of the file
  pub file_layer : (reads : Reading G) (unreadable : Unreadable) (bytes : List ℕ) (layer : Contents G) (rows : List SkippedContent)
      → LoadsFile reads unreadable bytes (Ok (record { unreadable = unreadable; list = layer; skipped = rows }))
      → IsLayerFileBy reads unreadable bytes (Ok layer)
  file_layer reads Refuse bytes layer rows loads = file_refused reads bytes (Ok (record { unreadable = Refuse; list = layer; skipped = rows })) loads
  file_layer reads Skip bytes layer rows loads = (rows, loads)

  -- and so is the fault
  pub file_fault : (reads : Reading G) (unreadable : Unreadable) (bytes : List ℕ) (fault : ReadFault)
      → LoadsFile reads unreadable bytes (Err fault) → IsLayerFileBy reads unreadable bytes (Err fault)
  file_fault reads Refuse bytes fault loads = file_refused reads bytes (Err fault) loads
  file_fault reads Skip bytes fault loads = loads

-- ---- ids

-- the number of a row is an id
pub number_id : (n : ℕ) → n ≤ 4294967295 → IsTrue (is_id (decimal n))
number_id n most =
    let some = decimal_nonempty n (omega arith) in
    let few = length-decimal-le 10 n (omega arith) (omega arith) (omega arith) in
    rw (le-leb 1 (length (decimal n)) (omega (arith, some)), le-leb (length (decimal n)) 64 (omega (arith, few))) refl
