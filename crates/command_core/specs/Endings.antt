-- How the end of a command is reported.
use Rattle.std.specs.Prelude.{◌≡◌, ◌≢◌, ℕ, List, Option, None, Bool, false, Result, Ok, Err}
use Rattle.std.specs.Prelude.{MatchResult, MatchOption}
use Rattle.std.specs.Prelude.{IsTrue, OnOk, [], ◌∷◌, ◌++◌, ◌||◌, codes, if◌then◌else◌}
use Rattle.std.specs.Bool.{MatchBool}
use Rattle.std.specs.Io.KnownBytes.{Appends}
use Rattle.run_core.specs.declared.fault.RunFault.{RunFault}
use Rattle.run_core.specs.declared.fault.RunFault.TheVariants.{Write}
use Rattle.run_core.specs.Lines.{run_line}
use Rattle.report_core.specs.Written.{AppendsPrefix}
use Rattle.relate_any_core.specs.declared.improper.Improper.{Improper}
use Rattle.words_core.specs.declared.words.Command.{Command}
use Rattle.words_core.specs.declared.words.WordFault.{WordFault}
use Rattle.command_core.specs.declared.notes.Notes.{Notes}
use Rattle.command_core.specs.Commands.{CommandEnds, HasImproper, none_improper}
use Rattle.command_core.specs.ImproperRows.{CommandRows, rows_in, rows_line}
use Rattle.command_core.specs.Skipping.{SkipEnds, counts_for, skip_of, skipped_line}
use Rattle.command_core.specs.Storing.{Stored}
use Rattle.run_core.specs.EditedLayers.{SkippedLists}
use Rattle.run_core.specs.Marks.{marked_lists, no_rows}
use Rattle.command_core.specs.Opening.{Files}
use Rattle.words_core.specs.Readings.{IsUngiven, ReadAs}
use Rattle.command_core.specs.WordFaults.{word_status_of, word_fault_line}

-- known bytes grow by this line, or by a prefix of it if the sink has failed
pub record IsLineOn {S : Type 0} (written : S → Option (List ℕ)) (has_failed : S → Bool)
    (old new : S) (line : List ℕ) : Type 0 where
  pub whole : has_failed new ≡ false → Appends (written old) (written new) line
  pub front : IsTrue (has_failed new) → AppendsPrefix (written old) (written new) line

-- the rings of these geometries are read by the even-odd rule, one line for each
abbrev pub improper_text : Improper → List ℕ
improper_text improper =
    (if improper.first then codes "rjoin: first: even-odd rule for improper rings\n" else [])
    ++ (if improper.second then codes "rjoin: second: even-odd rule for improper rings\n"
    else [])

-- known bytes grow by these lines, if there are any, or by a prefix if the sink has failed
abbrev pub IsToldOfRings : {S : Type 0} → (S → Option (List ℕ)) → (S → Bool) → S → S
    → Improper → Type 0
IsToldOfRings written has_failed old new improper =
    MatchBool (improper.first || improper.second)
    (IsLineOn written has_failed old new (improper_text improper)) (new ≡ old)

-- there is nothing to say
pub record AreNoNotes (notes : Notes) : Type 0 where
  pub improper : notes.improper ≡ none_improper
  pub skipped : notes.skipped ≡ None
  pub layers : marked_lists notes.rows.layers ≡ no_rows
  pub layer : notes.rows.layer.items ≡ []

-- the same of the line of the rows that were skipped, or else of improper rings
abbrev pub IsToldOfFirst : {S : Type 0} → (S → Option (List ℕ)) → (S → Bool) → S → S
    → Notes → Type 0
IsToldOfFirst written has_failed old new notes =
    MatchOption notes.skipped (IsToldOfRings written has_failed old new notes.improper)
    (λ counts. IsLineOn written has_failed old new (skipped_line counts))

-- known bytes grow by the line of these rows, or by a prefix if the sink has failed; nothing is
-- written if there are none, or if the sink had failed before
pub record IsToldOfSome {S : Type 0} (written : S → Option (List ℕ)) (has_failed : S → Bool)
    (old new : S) (line : List ℕ) : Type 0 where
  pub told : has_failed old ≡ false → IsLineOn written has_failed old new line
  pub untold : IsTrue (has_failed old) → new ≡ old

abbrev pub IsToldOfRows : {S : Type 0} → (S → Option (List ℕ)) → (S → Bool) → S → S
    → List ℕ → List ℕ → Type 0
IsToldOfRows written has_failed old new input [] = new ≡ old
IsToldOfRows written has_failed old new input (row ∷ rows) =
    IsToldOfSome written has_failed old new (rows_line input (row ∷ rows))

-- the same of all that there is to say, one line after another
pub record IsToldOf {S : Type 0} (written : S → Option (List ℕ)) (has_failed : S → Bool)
    (old new : S) (notes : Notes) : Type 0 where
  pub first : S
  pub first_told : IsToldOfFirst written has_failed old first notes
  pub left : S
  pub left_told : IsToldOfRows written has_failed first left (codes "left")
      (rows_in notes.rows).layers.left
  pub right : S
  pub right_told : IsToldOfRows written has_failed left right (codes "right")
      (rows_in notes.rows).layers.right
  pub layer_told : IsToldOfRows written has_failed right new (codes "layer")
      (rows_in notes.rows).layer

-- success has status 0 and no lines except on skipped rows and on improper rings; a fault has
-- status 1 and its line
abbrev pub IsToldBy : {S : Type 0} → (S → Option (List ℕ)) → (S → Bool) → S → S
    → Notes → Result Unit RunFault → ℕ → Type 0
IsToldBy written has_failed old new notes (Ok done) status =
    (status ≡ 0) × IsToldOf written has_failed old new notes
IsToldBy written has_failed old new notes (Err fault) status =
    (status ≡ 1) × IsLineOn written has_failed old new (run_line fault)

-- there is this to say of a command that skipped these rows, as far as the content of its files is
-- known
pub record AreNotes (known : Option Files) (command : Command) (rows : SkippedLists)
    (notes : Notes) : Type 0 where
  pub improper : HasImproper command notes.improper
  pub skipped : notes.skipped ≡ counts_for (skip_of command) rows
  pub rings : CommandRows known command (rows_in notes.rows)

-- a fault of words is written to the errors' sink, with its status; help is written to the output,
-- and if that fails, so does the program
pub record IsShownBy {O E : Type 0}
    (written : O → Option (List ℕ)) (has_failed : O → Bool) (output output' : O)
    (told : E → Option (List ℕ)) (has_failed' : E → Bool) (errors errors' : E)
    (fault : WordFault) (status : ℕ) : Type 0 where
  pub wrong : word_status_of fault ≢ 0
      → (status ≡ word_status_of fault) × (output' ≡ output)
      × IsLineOn told has_failed' errors errors' (word_fault_line fault)
  pub help : word_status_of fault ≡ 0
      → IsLineOn written has_failed output output' (word_fault_line fault)
  pub shown : word_status_of fault ≡ 0 → has_failed output' ≡ false
      → (status ≡ 0) × (errors' ≡ errors)
  pub lost : word_status_of fault ≡ 0 → IsTrue (has_failed output')
      → (status ≡ 1) × IsLineOn told has_failed' errors errors' (run_line Write)

-- a command has ended, and its end was reported
pub record CommandIsDone {O E : Type 0} (known : Option Files) (stored stored' : Stored)
    (written : O → Option (List ℕ)) (is_flushed has_failed : O → Bool) (output output' : O)
    (told : E → Option (List ℕ)) (has_failed' : E → Bool) (errors errors' : E)
    (command : Command) (status : ℕ) : Type 0 where
  pub outcome : Result Unit RunFault
  pub ends : CommandEnds known written is_flushed has_failed command output output' outcome
  pub rows : SkippedLists
  pub skips : SkipEnds known command stored stored' rows outcome
  pub notes : Notes
  pub are_notes : OnOk outcome (AreNotes known command rows notes)
  pub said : IsToldBy told has_failed' errors errors' notes outcome status

-- the words were read as a command, which was executed, or as a fault, which was shown
pub record WordsAreDone {O E : Type 0} (words : List (List ℕ)) (known : Option Files)
    (stored stored' : Stored)
    (written : O → Option (List ℕ)) (is_flushed has_failed : O → Bool) (output output' : O)
    (told : E → Option (List ℕ)) (has_failed' : E → Bool) (errors errors' : E)
    (status : ℕ) : Type 0 where
  pub read : Result Command WordFault
  pub reading : ReadAs words read
  pub done : MatchResult read
      (λ command. CommandIsDone known stored stored' written is_flushed has_failed output output'
      told has_failed' errors errors' command status)
      (λ fault. (stored' ≡ stored) × IsShownBy written has_failed output output'
      told has_failed' errors errors' fault status)

-- the environment gave words, which were executed, or none, which was shown as a fault
pub record ProgramIsDone {O E : Type 0} (known : Option Files) (stored stored' : Stored)
    (written : O → Option (List ℕ)) (is_flushed has_failed : O → Bool) (output output' : O)
    (told : E → Option (List ℕ)) (has_failed' : E → Bool) (errors errors' : E)
    (status : ℕ) : Type 0 where
  pub given : Result (List (List ℕ)) WordFault
  pub done : MatchResult given
      (λ words. WordsAreDone words known stored stored' written is_flushed has_failed output output'
      told has_failed' errors errors' status)
      (λ fault. IsUngiven fault × (stored' ≡ stored) × IsShownBy written has_failed output output'
      told has_failed' errors errors' fault status)
