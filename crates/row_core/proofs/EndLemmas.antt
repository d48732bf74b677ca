-- The ends and the beginnings of a text, of a record and of a header.
use Rattle.std.proofs.Common.{◌≡◌, ◌∙◌, ℕ, ◌+◌, ◌<◌, ◌≤◌, Bool, true, false, List, [], ◌∷◌, ◌++◌, All, Bor, length, Option, Some, None, IfSome, refl, sym, ap, arith, if◌then◌else◌, length-append, slice_get, IsTrue, not, nat_eq, ◌==◌, ◌&&◌}
use Rattle.std.proofs.lemmas.List.Elements.{All-cons, All-nil}
use Rattle.csv.specs.Machine.{ends_at_end}
use Rattle.csv.specs.Reading.{default_config, is_bom, records, strip_bom}
use Rattle.csv.specs.Records.{field_at}
use Rattle.csv.specs.declared.parser.State.{State}
use Rattle.csv.specs.declared.parser.State.TheVariants as st
use Rattle.row_core.specs.declared.rows.Rows.{Rows as RowsOf}
use Rattle.number_core.specs.declared.limits.Limits.{Limits}
use Rattle.number_core.specs.declared.limits.Limits.TheVariants.{Any}
use Rattle.format_core.specs.declared.layout.Delimiter.TheVariants.{Comma}
use Rattle.format_core.specs.declared.layout.Layout.{Layout}
use Rattle.row_core.specs.declared.header.Places.{Places}
use Rattle.row_core.specs.declared.unread.Unread.TheVariants.{Rows, Text}
use Rattle.row_core.specs.Cuts.{EndsBetween, EndsWithFeed, IsClosed, IsPlain, state_after}
use Rattle.row_core.specs.Records.{Record, records_of}
use Rattle.row_core.specs.Rows.{has_unended, last_row, rows_left}
use Rattle.row_core.specs.Tables.{IsOpenedTable}
use Rattle.row_core.specs.Unread.{IsHeaded, IsHeaderLine, IsUnreadFile}
use Rattle.row_core.proofs.CutLemmas.{closed-between, state-append, step-after_cr, text-cut}
use Rattle.row_core.proofs.FileLemmas.{file_fits, table-opened, table-placed}
use Rattle.row_core.proofs.RecordLemmas.{length_records_from}

-- ---- ends and beginnings

field-last : (front : Record) (last : List ℕ) → field_at (front ++ last ∷ []) (length front) ≡ Some last
unfolding field_at
field-last [] last = refl
field-last (x ∷ front) last = field-last front last

-- a record whose last field doesn't end with a line feed
pub ended_closed : (fields : Record) (i : ℕ) (field : List ℕ) → i + 1 ≡ length fields → Some field ≡ field_at fields i → ¬ (EndsWithFeed field)
    → IsClosed fields
ended_closed fields i field at is ended front last e =
    let place : i ≡ length front = omega (arith, ap length e, length-append front ((last ++ 10 ∷ []) ∷ [])) in
    let here : field_at fields i ≡ Some (last ++ 10 ∷ []) = rw (e, place) (field-last front (last ++ 10 ∷ [])) in
    let same : field ≡ last ++ 10 ∷ [] = cc in
    ended (last, same)

-- a text whose first byte isn't that of a byte order mark
pub plain_first : (text : List ℕ) (c : ℕ) → Some c ≡ slice_get text 0 → IsTrue (not (nat_eq c 239)) → IsPlain text
unfolding strip_bom
plain_first [] c is other = refl
plain_first (a ∷ []) c is other = refl
plain_first (a ∷ b ∷ []) c is other = refl
plain_first (a ∷ b ∷ d ∷ rest) c is other =
    let same : c ≡ a = cc in
    by (a == 239) (rw same at other)
  where
    by : (t : Bool) → IsTrue (not t) → (if t && (b == 187) && (d == 191) then rest else a ∷ b ∷ d ∷ rest) ≡ a ∷ b ∷ d ∷ rest
    by true h = let e = h in cc
    by false h = refl

pub plain_empty : (text : List ℕ) → None ≡ slice_get text 0 → IsPlain text
unfolding strip_bom
plain_empty [] none = refl
plain_empty (a ∷ rest) none = let n = none in cc

-- a byte order mark stays at the start
strip-append : (a b : List ℕ) → 3 ≤ length a → strip_bom (a ++ b) ≡ strip_bom a ++ b
unfolding strip_bom
strip-append [] b long = absurd (omega arith)
strip-append (x ∷ []) b long = absurd (omega arith)
strip-append (x ∷ y ∷ []) b long = absurd (omega arith)
strip-append (x ∷ y ∷ z ∷ a) b long = by (is_bom x y z)
  where
    by : (t : Bool) → (if t then a ++ b else x ∷ y ∷ z ∷ (a ++ b)) ≡ (if t then a else x ∷ y ∷ z ∷ a) ++ b
    by true = refl
    by false = refl

feed-tail : (x y : ℕ) (a : List ℕ) → EndsWithFeed (x ∷ y ∷ a) → EndsWithFeed (y ∷ a)
feed-tail x y a ([], is) = absurd (omega (arith, ap length is))
feed-tail x y a (z ∷ front, is) = let rest : y ∷ a ≡ front ++ 10 ∷ [] = cc in (front, rest)

strip-feed : (a : List ℕ) → 3 < length a → EndsWithFeed a → EndsWithFeed (strip_bom a)
unfolding strip_bom
strip-feed [] long ends = absurd (omega arith)
strip-feed (x ∷ []) long ends = absurd (omega arith)
strip-feed (x ∷ y ∷ []) long ends = absurd (omega arith)
strip-feed (x ∷ y ∷ z ∷ []) long ends = absurd (omega arith)
strip-feed (x ∷ y ∷ z ∷ w ∷ a) long ends = by (is_bom x y z)
  where
    by : (t : Bool) → EndsWithFeed (if t then w ∷ a else x ∷ y ∷ z ∷ w ∷ a)
    by true = feed-tail z w a (feed-tail y z (w ∷ a) (feed-tail x y (z ∷ w ∷ a) ends))
    by false = ends

-- a text of records none of which ends with a line feed, but which does
pub feed-between : (text : List ℕ) → EndsWithFeed text → All IsClosed (records default_config text) → EndsBetween st.StartRecord text
feed-between text (front, is) closed =
    let all = rw is at closed in
    let ends : EndsBetween st.StartRecord (front ++ 10 ∷ []) = closed-between (length (front ++ 10 ∷ []) + 1) st.StartRecord front refl (omega arith) all in
    rw is ends

ends-from : (s : State) (b : List ℕ) → ends_at_end s ≡ false → EndsBetween st.StartRecord b → EndsBetween s b
ends-from s [] between ends = between
ends-from st.StartRecord (c ∷ b) between ends = ends
ends-from st.AfterCr (c ∷ b) between ends = rw (step-after_cr c) ends
ends-from st.StartField (c ∷ b) between ends = let h = between in cc
ends-from st.InField (c ∷ b) between ends = let h = between in cc
ends-from st.InQuoted (c ∷ b) between ends = let h = between in cc
ends-from st.AfterQuote (c ∷ b) between ends = let h = between in cc
ends-from st.InEscape (c ∷ b) between ends = let h = between in cc
ends-from st.InComment (c ∷ b) between ends = let h = between in cc

pub ends-append : (a b : List ℕ) → EndsBetween st.StartRecord a → EndsBetween st.StartRecord b → EndsBetween st.StartRecord (a ++ b)
ends-append a b first second = rw (state-append st.StartRecord a b) (ends-from (state_after st.StartRecord a) b first second)

-- ---- a header

pub header_line : (layout : Layout) (line : List ℕ) (rows : RowsOf) (places : Places) → layout.delimiter ≡ Comma → 3 < length line → EndsWithFeed line
    → IsOpenedTable Any layout line rows places → has_unended rows ≡ false → rows_left rows ≡ [] → IsHeaderLine layout.columns line places
header_line layout line rows places commas long ends opened ended none =
    let records = rw commas at opened.behind.records in
    let alone : records_of Comma line ≡ last_row rows ∷ [] = records ∙ ap (λ others. last_row rows ∷ others) none in
    record {
      header = last_row rows;
      placed = opened.placed;
      records = alone;
      ends = feed-between (strip_bom line) (strip-feed line long ends)
          (rw alone (All-cons IsClosed (last_row rows) [] (opened.behind.closed ended) (All-nil IsClosed)));
      long = omega arith;
    }

header-unread : (limits : Limits) (layout : Layout) (bytes : List ℕ) (rest : Bor (List ℕ)) (places : Places) → IsHeaded limits layout bytes rest.now places
    → IsUnreadFile limits layout bytes (Text rest 0) places
header-unread limits layout bytes rest places h =
    let text : strip_bom bytes ≡ strip_bom h.line ++ rest.now = ap strip_bom (sym h.whole) ∙ strip-append h.line rest.now h.headed.long in
    let all : records_of Comma bytes ≡ h.headed.header ∷ records default_config rest.now =
    ap (records default_config) text ∙ text-cut (strip_bom h.line) rest.now h.headed.ends
    ∙ ap (λ first. first ++ records default_config rest.now) h.headed.records in
    record {
      table = table-placed limits layout bytes h.headed.header (records default_config rest.now) h.few (rw h.commas all) places h.headed.placed;
      none_read = refl;
      reading = (
        h.plain,
        omega (arith, length_records_from 44 (length rest.now + 1) st.StartRecord rest.now, h.few, file_fits limits, ap length h.whole, length-append h.line rest.now),
      );
    }

-- a file that is cut after its first line
pub header_cut : (limits : Limits) (layout : Layout) (bytes : List ℕ) (r : Option (Bor (List ℕ) × Places)) → IfSome r (λ found. IsHeaded limits layout bytes found.0.now found.1)
    → IfSome r (λ found. IsUnreadFile limits layout bytes (Text found.0 0) found.1)
header_cut limits layout bytes None h = h
header_cut limits layout bytes (Some found) h = header-unread limits layout bytes found.0 found.1 h

-- a file that a reader reads
pub opened_unread : (limits : Limits) (layout : Layout) (bytes : List ℕ) (rows : RowsOf) (places : Places) → IsOpenedTable limits layout bytes rows places
    → IsUnreadFile limits layout bytes (Rows rows) places
opened_unread limits layout bytes rows places opened = record {
  table = table-opened limits layout bytes rows places opened;
  none_read = opened.behind.none_read;
  reading = opened.behind.reading;
}

pub ruleset plain = (plain_empty, plain_first)
