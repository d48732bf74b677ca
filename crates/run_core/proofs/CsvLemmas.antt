-- How the rows of a CSV writer grow.
use Rattle.std.proofs.Common.{◌≡◌, ◌≢◌, ℕ, List, [], ◌++◌, Option, Some, None, Vec, Global, ap, subst, ◌∙◌, false}
use Rattle.std.specs.Io.KnownBytes.{Appends, Keeps}
use Rattle.std.proofs.lemmas.List.{flat_map_more}
use Rattle.csv.specs.Writing.{row_text, default_writer, writer_setup, fields_written, has_written, text_written}
use Rattle.csv.specs.declared.writer.QuoteStyle.TheVariants.{NonNumeric}
use Rattle.csv.specs.declared.writer.Writer.{Writer}
use Rattle.csv.specs.declared.writer.WriterBuilder.{WriterBuilder}
use Rattle.report_core.specs.CsvTexts.{csv_text}
use Rattle.run_core.specs.CsvWriting.{contents_of, HasRows, AddsRow}

appended : (old new : Option (List ℕ)) (before more : List ℕ) → old ≡ Some before → Appends old new more → new ≡ Some (before ++ more)
appended None new before more p h = absurd (let bad : None ≡ Some before = p in cc)
appended (Some x) None before more p h = absurd h
appended (Some x) (Some y) before more p h = let same : x ≡ before = cc in ap Some (h ∙ ap (λ l. l ++ more) same)

-- a row was written
pub row_pushed : (old new : Writer (Vec ℕ Global)) (row : List (List ℕ))
    → (fields_written old ≡ 0 → has_written old ≡ false → (writer_setup old).style ≢ NonNumeric
    → Appends (text_written contents_of old) (text_written contents_of new) (row_text (writer_setup old) row))
    → fields_written new ≡ 0 → has_written new ≡ false → writer_setup new ≡ writer_setup old → AddsRow old new row
row_pushed old new row grown ended clean setup = λ rows had.
    let by_default : (writer_setup old).style ≢ NonNumeric = λ e.
    let bad : default_writer.style ≡ NonNumeric = subst (λ (s : WriterBuilder). s.style ≡ NonNumeric) had.setup e in cc in
    record {
      setup = setup ∙ had.setup;
      ended = ended;
      clean = clean;
      written = appended _ _ (csv_text rows) (row_text (writer_setup old) row) had.written (grown had.ended had.clean by_default)
          ∙ ap (λ s. Some (csv_text rows ++ row_text s row)) had.setup
          ∙ ap Some (flat_map_more (row_text default_writer) [] rows row);
    }

-- the writer has stored the text of its rows
pub text_kept : (writer : Writer (Vec ℕ Global)) (text : Vec ℕ Global) (rows : List (List (List ℕ)))
    → Keeps (text_written contents_of writer) (contents_of text) → HasRows writer rows → text.items ≡ csv_text rows
text_kept writer text rows kept had =
    let known : Keeps (Some (csv_text rows)) (contents_of text) = subst (λ (o : Option (List ℕ)). Keeps o (contents_of text)) had.written kept in known
