-- Rows that are the contents of records in order: adding more of them, and their result.
use Rattle.std.proofs.Common.{◌≡◌, ◌≢◌, ◌∙◌, ◌+◌, ◌<◌, ◌≤◌, ℕ, Bool, true, false, List, [], ◌∷◌, ◌++◌, All, length, get_or, Option, Some, None, Result, Ok, Err, refl, sym, subst, ap, inl, inr, arith, append_assoc}
use Rattle.std.proofs.lemmas.List.Elements.{All-nil}
use Rattle.std.specs.declared.alloc.Global.{Global}
use Rattle.std.specs.declared.vec.Vec.{Vec}
use Rattle.row_core.specs.declared.layer_row.ReadRow.{ReadRow}
use Rattle.row_core.specs.declared.read_fault.ReadFault.{ReadFault}
use Rattle.row_core.specs.declared.read_fault.ReadFault.TheVariants.{Io, Memory}
use Rattle.row_core.specs.declared.rows.Rows.{Rows as RowsOf}
use Rattle.row_core.specs.declared.unread.Unread.{Unread}
use Rattle.row_core.specs.declared.unread.Unread.TheVariants.{Rows, Text}
use Rattle.file_core.specs.Batches.{HasFault, IsBatch, SayInTurn, UnreadGive, after_rows, all_rows, if_loaded, with_rows}
use Rattle.row_core.specs.LayerRows.{HasId}
use Rattle.row_core.specs.LayerRows.{RowContent, RowForm, RowSays, Says, content_of, id_field, AfterIdField, form_at}
use Rattle.format_core.specs.declared.text_fault.TextFault.{TextFault}
use Rattle.file_core.specs.SkippedRows.{Loaded, LoadsFile, LoadsRow, begun, loaded_with, rows_in}
use Rattle.file_core.specs.declared.skipped.Unreadable.{Unreadable}
use Rattle.number_core.specs.declared.limits.Limits.{Limits}
use Rattle.format_core.specs.declared.layout.Layout.{Layout}
use Rattle.format_core.specs.Layouts.{Reading}
use Rattle.row_core.specs.declared.header.Places.{Places}
use Rattle.file_core.proofs.LoadedLemmas.{loaded_with-next}
use Rattle.row_core.specs.Records.{Record}
use Rattle.row_core.specs.Rows.{RowsGive, most_rows, rows_left}
use Rattle.row_core.specs.Tables.{IsTable}
use Rattle.row_core.specs.Unread.{IsUnread, IsUnreadFile, count_unread, records_unread}

-- ---- what was loaded of some rows
module _ {G : Type 0} where
  pub with_rows-append : (loaded : Loaded G) (a b : List (ReadRow G)) → with_rows loaded (a ++ b) ≡ if_loaded (with_rows loaded a) (λ l. with_rows l b)
  with_rows-append loaded [] b = refl
  with_rows-append loaded (row ∷ a) b = by (loaded_with (rows_in loaded + 1) loaded (Ok (content_of row))) (λ l. with_rows-append l a b)
    where
      by : (w : Result (Loaded G) ReadFault) → ((l : Loaded G) → with_rows l (a ++ b) ≡ if_loaded (with_rows l a) (λ l. with_rows l b))
          → if_loaded w (λ l. with_rows l (a ++ b)) ≡ if_loaded (if_loaded w (λ l. with_rows l a)) (λ l. with_rows l b)
      by (Ok l) more = more l
      by (Err fault) more = refl

  pub with_rows-next : (loaded : Loaded G) (rows : List (ReadRow G)) (next : Loaded G) → with_rows loaded rows ≡ Ok next
      → rows_in next ≡ rows_in loaded + length rows
  with_rows-next loaded [] next given = let same : loaded ≡ next = cc in omega (arith, ap rows_in same)
  with_rows-next loaded (row ∷ rows) next given =
      by (loaded_with (rows_in loaded + 1) loaded (Ok (content_of row))) refl given (λ l more. with_rows-next l rows next more)
    where
      by : (w : Result (Loaded G) ReadFault) → loaded_with (rows_in loaded + 1) loaded (Ok (content_of row)) ≡ w → if_loaded w (λ l. with_rows l rows) ≡ Ok next
          → ((l : Loaded G) → with_rows l rows ≡ Ok next → rows_in next ≡ rows_in l + length rows) → rows_in next ≡ rows_in loaded + length (row ∷ rows)
      by (Ok l) is given more = omega (arith, more l given, loaded_with-next (rows_in loaded + 1) loaded (content_of row) l is)
      by (Err fault) is given more = let none = given in cc

  pub all_rows_append : (a b : List (Vec (ReadRow G) Global)) → all_rows (a ++ b) ≡ all_rows a ++ all_rows b
  all_rows_append [] b = refl
  all_rows_append (rows ∷ a) b = ap (λ others. rows.items ++ others) (all_rows_append a b) ∙ sym (append_assoc rows.items (all_rows a) (all_rows b))

module _ {G : Type 0} (form : RowForm G) where
  -- ---- what records say

  -- the content of a row doesn't depend on its number
  pub says-any : (n : ℕ) (fields : Record) (content : RowContent G) → RowSays form n fields (Ok content) → Says form fields content
  says-any n fields content (inl (other, is)) m = let none = is in cc
  says-any n fields content (inr (same, says)) m = inr (same, by (id_field form.places fields) says)
    where
      answer : Result (RowContent G) ReadFault
      answer = Ok content

      Shown : Type 0
      Shown =
          (shape : Result G TextFault) × form.text (get_or fields form.places.geometry []) shape
          × (answer ≡ Ok (record { id = id_field form.places fields; shape = shape }))

      by : (id : Option (List ℕ)) → AfterIdField n id answer Shown → AfterIdField m id answer Shown
      by None shown = shown
      by (Some id) (inl (bad, is)) = let none = is in cc
      by (Some id) (inr (good, shown)) = inr (good, shown)

  -- one more row
  pub say-push : (records : List Record) (rows : List (ReadRow G)) (first : Record) (row : ReadRow G) (left : List Record)
      → SayInTurn form records rows (first ∷ left) → Says form first (content_of row) → SayInTurn form records (rows ++ row ∷ []) left
  say-push records [] first row left say says = rw say (says, refl)
  say-push [] (r ∷ rows) first row left say says = absurd say
  say-push (other ∷ records) (r ∷ rows) first row left say says = (say.0, say-push records rows first row left say.1 says)

  -- the rows of two texts
  pub say-append : (a b : List Record) (rows others : List (ReadRow G)) (left : List Record)
      → SayInTurn form a rows [] → SayInTurn form b others left → SayInTurn form (a ++ b) (rows ++ others) left
  say-append a b [] others left say more = rw say more
  say-append [] b (r ∷ rows) others left say more = absurd say
  say-append (first ∷ a) b (r ∷ rows) others left say more = (say.0, say-append a b rows others left say.1 more)

  -- and then the remaining rows
  pub say-then : (a b : List Record) (rows : List (ReadRow G)) → SayInTurn form a rows [] → SayInTurn form (a ++ b) rows b
  say-then a b [] say = rw say refl
  say-then [] b (r ∷ rows) say = absurd say
  say-then (first ∷ a) b (r ∷ rows) say = (say.0, say-then a b rows say.1)

  pub say-length : (records : List Record) (rows : List (ReadRow G)) (left : List Record) → SayInTurn form records rows left
      → length records ≡ length rows + length left
  say-length records [] left say = omega (arith, ap length say)
  say-length [] (r ∷ rows) left say = absurd say
  say-length (first ∷ records) (r ∷ rows) left say = omega (arith, say-length records rows left say.1)

  -- ---- what the rows give

  -- these rows are accepted, and then the remaining ones
  pub say-give : (n m : ℕ) (records : List Record) (rows : List (ReadRow G)) (left : List Record) (loaded next : Loaded G) (answer : Result (Loaded G) ReadFault)
      → SayInTurn form records rows left → n ≡ rows_in loaded + 1 → n + length rows ≡ m → with_rows loaded rows ≡ Ok next
      → RowsGive (LoadsRow form) m next left answer → RowsGive (LoadsRow form) n loaded records answer
  say-give n m records [] left loaded next answer say at sum given gives =
      let same : m ≡ n = omega arith in
      let equal : next ≡ loaded = cc in
      rw (say, ← same, ← equal) gives
  say-give n m [] (r ∷ rows) left loaded next answer say at sum given gives = absurd say
  say-give n m (first ∷ records) (r ∷ rows) left loaded next answer say at sum given gives =
      by (loaded_with n loaded (Ok (content_of r))) refl (ap (λ k. if_loaded (loaded_with k loaded (Ok (content_of r))) (λ l. with_rows l rows)) at ∙ given)
      (λ l is more. say-give (n + 1) m records rows left l next answer say.1
      (omega (arith, loaded_with-next n loaded (content_of r) l is)) (omega arith) more gives)
    where
      by : (w : Result (Loaded G) ReadFault) → loaded_with n loaded (Ok (content_of r)) ≡ w
          → if_loaded (loaded_with n loaded (Ok (content_of r))) (λ l. with_rows l rows) ≡ Ok next
          → ((l : Loaded G) → loaded_with n loaded (Ok (content_of r)) ≡ Ok l → with_rows l rows ≡ Ok next
          → RowsGive (LoadsRow form) (n + 1) l records answer)
          → RowsGive (LoadsRow form) n loaded (first ∷ records) answer
      by (Ok l) is given later = (Ok l, (Ok (content_of r), say.0 n, sym is), later l is (rw is at given))
      by (Err f) is given later = let none = rw is at given in cc

  -- one of these rows is refused
  pub say-refuse : (n : ℕ) (records : List Record) (rows : List (ReadRow G)) (left : List Record) (loaded : Loaded G) (fault : ReadFault)
      → SayInTurn form records rows left → n ≡ rows_in loaded + 1 → with_rows loaded rows ≡ Err fault
      → RowsGive (LoadsRow form) n loaded records (Err fault)
  say-refuse n records [] left loaded fault say at given = let none = given in cc
  say-refuse n [] (r ∷ rows) left loaded fault say at given = absurd say
  say-refuse n (first ∷ records) (r ∷ rows) left loaded fault say at given =
      by (loaded_with n loaded (Ok (content_of r))) refl (ap (λ k. if_loaded (loaded_with k loaded (Ok (content_of r))) (λ l. with_rows l rows)) at ∙ given)
      (λ l is more. say-refuse (n + 1) records rows left l fault say.1 (omega (arith, loaded_with-next n loaded (content_of r) l is)) more)
    where
      by : (w : Result (Loaded G) ReadFault) → loaded_with n loaded (Ok (content_of r)) ≡ w
          → if_loaded (loaded_with n loaded (Ok (content_of r))) (λ l. with_rows l rows) ≡ Err fault
          → ((l : Loaded G) → loaded_with n loaded (Ok (content_of r)) ≡ Ok l → with_rows l rows ≡ Err fault
          → RowsGive (LoadsRow form) (n + 1) l records (Err fault))
          → RowsGive (LoadsRow form) n loaded (first ∷ records) (Err fault)
      by (Ok l) is given later = (Ok l, (Ok (content_of r), say.0 n, sym is), later l is (rw is at given))
      by (Err f) is given later = (Err f, (Ok (content_of r), say.0 n, sym is), sym (rw is at given))

  -- a row that has a fault by itself
  pub fault-gives : (n : ℕ) (records : List Record) (loaded : Loaded G) (fault : ReadFault) → HasFault form n records fault
      → RowsGive (LoadsRow form) n loaded records (Err fault)
  fault-gives n [] loaded fault has = absurd has
  fault-gives n (first ∷ records) loaded fault has = (Err fault, (Err fault, has, refl), refl)

-- ---- what ends a batch
module _ {G : Type 0} (form : RowForm G) (old new : Unread) (read : List (ReadRow G)) (left : List Record)
    (say : SayInTurn form (records_unread old) read left) (ids : All HasId read) where
  -- memory was refused
  pub batch-refused : IsBatch form old read (Err Memory) new
  batch-refused = record { left = left; rows = say; behind = λ other. absurd (other refl); ids = ids; no_io = λ e. cc }

  -- no row is left
  pub batch-ended : left ≡ [] → IsBatch form old read (Ok false) new
  batch-ended none = record { left = left; rows = say; behind = none; ids = ids; no_io = λ e. cc }

  -- the first row that is left has a fault of its own, or memory was refused
  pub batch-faulty : (fault : ReadFault) → fault ≢ Io → (fault ≢ Memory → HasFault form (count_unread old + 1 + length read) left fault)
      → IsBatch form old read (Err fault) new
  batch-faulty fault no_io has = record { left = left; rows = say; behind = has; ids = ids; no_io = λ e. no_io cc }

-- memory was refused before a row was read
pub batch-none : {G : Type 0} (form : RowForm G) (old new : Unread) (rows : List (Vec (ReadRow G) Global)) → rows ≡ [] → IsBatch form old (all_rows rows) (Err Memory) new
batch-none form old new rows none = rw none (batch-refused form old new [] (records_unread old) refl (All-nil HasId))

-- rows that a reader form are those that were left
pub batch-begun : {G : Type 0} (form : RowForm G) (old : Unread) (first new : RowsOf) (read : List (ReadRow G)) (more : Result Bool ReadFault)
    → rows_left first ≡ records_unread old → first.count ≡ count_unread old → IsBatch form (Rows first) read more (Rows new)
    → IsBatch form old read more (Rows new)
batch-begun form old first new read more rows count batch = record {
  left = batch.left;
  rows = rw (← rows) batch.rows;
  behind = rw (← count) batch.behind;
  ids = batch.ids;
  no_io = batch.no_io;
}

unread-few : (unread : Unread) → IsUnread unread → count_unread unread + length (records_unread unread) ≤ most_rows
unread-few (Text text count) is = is.1
unread-few (Rows rows) is = is.few

-- the rows that are read can be numbered
pub batch-few : {G : Type 0} (form : RowForm G) (old new : Unread) (read : List (ReadRow G)) (more : Result Bool ReadFault) → IsUnread old
    → IsBatch form old read more new → count_unread old + length read ≤ most_rows
batch-few form old new read more is batch =
    omega (arith, unread-few old is, say-length form (records_unread old) read batch.left batch.rows)

-- how many rounds are still to come, at most
abbrev pub most_rounds : Unread → Result Bool ReadFault → ℕ
most_rounds unread (Ok true) = length (records_unread unread) + 1
most_rounds unread (Ok false) = 0
most_rounds unread (Err fault) = 0

-- the result of a batch and of what follows it
module _ {G : Type 0} (form : RowForm G) where
  abbrev Gives : Unread → Loaded G → Result (Loaded G) ReadFault → Type 0
  Gives = UnreadGive form

  module _ (old new : Unread) (read : List (ReadRow G)) where
    pub batch-smaller : (more : Result Bool ReadFault) → IsBatch form old read more new → most_rounds new more < length (records_unread old) + 1
    batch-smaller (Ok true) batch =
        omega (arith, say-length form (records_unread old) read batch.left batch.rows, ap length batch.behind.1, batch.behind.3)
    batch-smaller (Ok false) batch = omega arith
    batch-smaller (Err fault) batch = omega arith

    module _ (loaded : Loaded G) (at : count_unread old ≡ rows_in loaded) where
      pub batch-refuses : (more : Result Bool ReadFault) (fault : ReadFault) → IsBatch form old read more new
          → with_rows loaded read ≡ Err fault → Gives old loaded (Err fault)
      batch-refuses more fault batch given =
          say-refuse form (count_unread old + 1) (records_unread old) read batch.left loaded fault batch.rows (omega arith) given

      module _ (next : Loaded G) where
        pub batch-goes-on : (answer : Result (Loaded G) ReadFault) → IsBatch form old read (Ok true) new → with_rows loaded read ≡ Ok next
            → Gives new next answer → Gives old loaded answer
        batch-goes-on answer batch given gives =
            say-give form (count_unread old + 1) (count_unread new + 1) (records_unread old) read batch.left loaded next answer batch.rows
            (omega arith) batch.behind.2 given (rw batch.behind.1 gives)

        batch-ends : IsBatch form old read (Ok false) new → with_rows loaded read ≡ Ok next → Gives old loaded (Ok next)
        batch-ends batch given =
            say-give form (count_unread old + 1) (count_unread old + 1 + length read) (records_unread old) read batch.left loaded next (Ok next)
            batch.rows (omega arith) refl given (rw batch.behind refl)

        batch-fails : (fault : ReadFault) → IsBatch form old read (Err fault) new → fault ≢ Memory → with_rows loaded read ≡ Ok next
            → Gives old loaded (Err fault)
        batch-fails fault batch known given =
            say-give form (count_unread old + 1) (count_unread old + 1 + length read) (records_unread old) read batch.left loaded next (Err fault)
            batch.rows (omega arith) refl given
            (fault-gives form (count_unread old + 1 + length read) batch.left next fault (batch.behind known))

        -- as many rows more were loaded as were read
        pub batch-counted : IsBatch form old read (Ok true) new → with_rows loaded read ≡ Ok next → count_unread new ≡ rows_in next
        batch-counted batch given = omega (arith, with_rows-next loaded read next given, batch.behind.2)

      -- the last batch
      pub batch-last : (more : Result Bool ReadFault) (answer : Result (Loaded G) ReadFault) → IsBatch form old read more new → more ≢ Ok true
          → answer ≢ Err Memory → answer ≡ if_loaded (with_rows loaded read) (after_rows more) → Gives old loaded answer
      batch-last more answer batch last known is = by (with_rows loaded read) refl more batch last is
        where
          by : (given : Result (Loaded G) ReadFault) → with_rows loaded read ≡ given → (more : Result Bool ReadFault) → IsBatch form old read more new
              → more ≢ Ok true → answer ≡ if_loaded given (after_rows more) → Gives old loaded answer
          by (Err fault) w more batch last is = subst (Gives old loaded) (sym is) (batch-refuses more fault batch w)
          by (Ok next) w (Ok true) batch last is = absurd (last refl)
          by (Ok next) w (Ok false) batch last is = subst (Gives old loaded) (sym is) (batch-ends next batch w)
          by (Ok next) w (Err fault) batch last is =
              subst (Gives old loaded) (sym is) (batch-fails next fault batch (λ e. known (is ∙ ap Err e)) w)

-- the rows of a file, all of which are added to none
pub file_read : {G : Type 0} (reads : Reading G) (unreadable : Unreadable) (bytes : List ℕ) (limits : Limits) (layout : Layout) (unread : Unread) (places : Places)
    (loaded : Loaded G) (answer : Result (Loaded G) ReadFault) → limits ≡ reads.limits → layout ≡ reads.layout
    → IsUnreadFile limits layout bytes unread places → loaded ≡ begun unreadable → UnreadGive (form_at reads places) unread loaded answer → LoadsFile reads unreadable bytes answer
file_read {G} reads unreadable bytes limits layout unread places loaded answer bounded same opened begins gives =
    let rows = records_unread unread in
    let P : Loaded G → Type 0 = λ l. RowsGive (LoadsRow (form_at reads places)) (count_unread unread + 1) l rows answer in
    let Q : Limits → Layout → Type 0 = λ b l. IsTable b l bytes (Ok (record { places = places; rows = rows })) in (
      Ok (record { places = places; rows = rows }),
      subst (λ b. Q b reads.layout) bounded (subst (Q limits) same opened.table),
      rw opened.none_read at (subst P begins gives),
    )
