-- How the rows of the list of skipped rows are written.
use Rattle.std.specs.Prelude.{codes}
use Rattle.std.proofs.Common.{◌≡◌, ◌∙◌, ◌+◌, ◌<◌, ℕ, List, [], ◌∷◌, ◌++◌, Vec, Global, Result, Ok, Err, IfOk, ap, append-nil, append_assoc, get_or, length, map, subst, sym, take}
use Rattle.std.proofs.lemmas.List.{map-append, take_more}
use Rattle.csv.specs.declared.writer.Writer.{Writer}
use Rattle.file_core.specs.declared.skipped.SkippedRow.{SkippedRow}
use Rattle.file_core.specs.SkippedRows.{skipped_content}
use Rattle.report_core.specs.CsvTexts.{csv_text}
use Rattle.run_core.specs.CsvWriting.{AddsRow, AddsRows, HasRows}
use Rattle.run_core.specs.EditedLayers.{SkippedLists}
use Rattle.run_core.specs.SkippedTexts.{side_rows, skipped_header, skipped_row, skipped_text}

-- nothing is written
pub none_more : (writer : Writer (Vec ℕ Global)) (side : List ℕ) → AddsRows writer writer (side_rows side [])
none_more writer side rows had = rw (append-nil rows) had

-- the rows up to the next one
side_next : (side : List ℕ) (xs : List SkippedRow) (i : ℕ) (x : SkippedRow) → i < length xs → x ≡ get_or xs i x
    → side_rows side (map skipped_content (take (i + 1) xs))
    ≡ side_rows side (map skipped_content (take i xs)) ++ skipped_row side (skipped_content x) ∷ []
side_next side xs i x within is =
    ap (λ ys. side_rows side (map skipped_content ys)) (take_more xs i x within ∙ ap (λ y. take i xs ++ y ∷ []) (sym is))
    ∙ ap (side_rows side) (map-append skipped_content (take i xs) (x ∷ []))
    ∙ map-append (skipped_row side) (map skipped_content (take i xs)) (skipped_content x ∷ [])

-- one more row is written
pub one_more : (first last new : Writer (Vec ℕ Global)) (side : List ℕ) (xs : List SkippedRow) (i : ℕ) (x : SkippedRow) → i < length xs
    → x ≡ get_or xs i x → AddsRows first last (side_rows side (map skipped_content (take i xs)))
    → AddsRow last new (skipped_row side (skipped_content x)) → AddsRows first new (side_rows side (map skipped_content (take (i + 1) xs)))
one_more first last new side xs i x within is written next rows had =
    let before = side_rows side (map skipped_content (take i xs)) in
    subst (HasRows new)
    (append_assoc rows before (skipped_row side (skipped_content x) ∷ []) ∙ ap (λ more. rows ++ more) (sym (side_next side xs i x within is)))
    (next (rows ++ before) (written rows had))

-- the header and the rows of both sides are written
pub both_written : (rows : SkippedLists) (begun headed lefts rights : Writer (Vec ℕ Global)) (text : List ℕ) → HasRows begun []
    → AddsRow begun headed skipped_header → AddsRows headed lefts (side_rows (codes "left") rows.left)
    → AddsRows lefts rights (side_rows (codes "right") rows.right)
    → ((all : List (List (List ℕ))) → HasRows rights all → text ≡ csv_text all) → text ≡ skipped_text rows
both_written rows begun headed lefts rights text empty header left right kept =
    kept _ (right _ (left (skipped_header ∷ []) (header [] empty)))

-- and made a text
pub list_made : {E : Type 0} (rows : SkippedLists) (begun headed lefts rights : Writer (Vec ℕ Global)) (out : Result (Vec ℕ Global) E) → HasRows begun []
    → AddsRow begun headed skipped_header → AddsRows headed lefts (side_rows (codes "left") rows.left)
    → AddsRows lefts rights (side_rows (codes "right") rows.right)
    → IfOk out (λ text. (all : List (List (List ℕ))) → HasRows rights all → text.items ≡ csv_text all) → IfOk out (λ text. text.items ≡ skipped_text rows)
list_made rows begun headed lefts rights (Ok text) empty header left right kept =
    both_written rows begun headed lefts rights text.items empty header left right kept
list_made rows begun headed lefts rights (Err e) empty header left right kept = tt
