-- Parts of a text: which of them are whole, and the rows of parts that follow one another.
use Rattle.std.proofs.Common.{◌≡◌, ◌∙◌, ℕ, ◌+◌, ◌<◌, ◌≤◌, true, false, List, [], ◌∷◌, ◌++◌, All, Bor, length, Option, Some, None, IfSome, Ok, refl, sym, ap, subst, arith, length-append}
use Rattle.std.proofs.Math.ListN.{get_or-append}
use Rattle.std.proofs.lemmas.List.Elements.{All-append, All-tail}
use Rattle.csv.specs.Reading.{default_config, records}
use Rattle.row_core.specs.declared.layer_row.ReadRow.{ReadRow}
use Rattle.file_core.specs.declared.parts.Parts.{Parts}
use Rattle.row_core.specs.declared.rows.Rows.{Rows as RowsOf}
use Rattle.row_core.specs.declared.unread.Unread.TheVariants.{Text, Rows}
use Rattle.file_core.specs.Batches.{IsBatch}
use Rattle.row_core.specs.LayerRows.{HasId, RowForm}
use Rattle.row_core.specs.Cuts.{EndsWithFeed, IsClosed, IsPlain}
use Rattle.file_core.specs.Parts.{IsBoth, IsOnePart, IsParts, rows_of}
use Rattle.row_core.specs.Rows.{rows_left}
use Rattle.row_core.specs.Unread.{IsUnread}
use Rattle.file_core.proofs.BatchLemmas.{say-append, say-length, say-then}
use Rattle.row_core.proofs.CutLemmas.{text-cut}
use Rattle.csv.specs.declared.parser.State.{State}
use Rattle.csv.specs.Reading.{records_from}
use Rattle.row_core.proofs.RecordLemmas.{length_records_from}
use Rattle.row_core.proofs.EndLemmas.{ends-append, feed-between}

-- ---- lists in two parts

pub All-front : {X : Type 0} (P : X → Type 0) (a b : List X) → All P (a ++ b) → All P a
All-front P a b all = λ k d within. subst P (get_or-append a b d k within) (all k d (omega (arith, length-append a b)))

pub All-back : {X : Type 0} (P : X → Type 0) (a b : List X) → All P (a ++ b) → All P b
All-back P [] b all = all
All-back P (x ∷ a) b all = All-back P a b (All-tail P x (a ++ b) all)

pub if_some : {X : Type 0} (P Q : X → Type 0) (o : Option X) → IfSome o P → ((x : X) → P x → Q x) → IfSome o Q
if_some P Q None h more = tt
if_some P Q (Some x) h more = more x h

-- ---- parts

pub parts_whole : {G : Type 0} (form : RowForm G) (text : List ℕ) (old new : RowsOf) (read : List (ReadRow G)) (parts : Parts G) → EndsWithFeed text
    → rows_left old ≡ records default_config text → IsBatch form (Rows old) read (Ok false) (Rows new) → All IsClosed (rows_left old)
    → IsOnePart read parts → IsParts form text parts
parts_whole form text old new read parts ends rows batch closed one = record {
  rows = rw (one.rows, ← rows, ← batch.behind) batch.rows;
  counted = rw one.rows one.count;
  ends = feed-between text ends (rw rows at closed);
  ids = rw one.rows batch.ids;
}

pub parts_both : {G : Type 0} (form : RowForm G) (text a b : List ℕ) (first second all : Parts G) → a ++ b ≡ text → IsParts form a first → IsParts form b second
    → IsBoth first second all → IsParts form text all
parts_both form text a b first second all is one other both =
    rw (← is)
    (record {
      rows = rw (text-cut a b one.ends, both.rows)
          (say-append form (records default_config a) (records default_config b) (rows_of first) (rows_of second) [] one.rows other.rows);
      counted = omega (arith, both.count, one.counted, other.counted, ap length both.rows, length-append (rows_of first) (rows_of second));
      ends = ends-append a b one.ends other.ends;
      ids = rw both.rows (All-append HasId (rows_of first) (rows_of second) one.ids other.ids);
    })

pub parts-batch : {G : Type 0} (form : RowForm G) (text rest : Bor (List ℕ)) (count behind : ℕ) (round : List ℕ) (parts : Parts G) → IsUnread (Text text count)
    → round ++ rest.now ≡ text.now → IsParts form round parts → IsPlain rest.now → behind ≡ count + parts.count → 0 < parts.count
    → IsBatch form (Text text count) (rows_of parts) (Ok true) (Text rest behind)
parts-batch form text rest count behind round parts unread is read plain counted some =
    let cut : records default_config text.now ≡ records default_config round ++ records default_config rest.now =
    ap (records default_config) (sym is) ∙ text-cut round rest.now read.ends in
    let rows = say-then form (records default_config round) (records default_config rest.now) (rows_of parts) read.rows in
    let many = say-length form (records default_config round ++ records default_config rest.now) (rows_of parts) (records default_config rest.now) rows in
    let few = unread.1 in
    record {
      left = records default_config rest.now;
      rows = rw cut rows;
      behind = (
        (plain, omega (arith, few, many, ap length cut, counted, read.counted)),
        refl,
        omega (arith, counted, read.counted),
        omega (arith, some, read.counted),
      );
      ids = read.ids;
      no_io = λ e. cc;
    }

pub records_few : (n : ℕ) (s : State) (xs : List ℕ) → length (records_from default_config n s xs) ≤ n
records_few n s xs = length_records_from 44 n s xs

pub ruleset one_whole = (if_some, parts_whole, records_few)
