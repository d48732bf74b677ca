-- What a command over files stores and says of the rows that it skips.
use Rattle.std.proofs.Common.{◌≡◌, ◌≢◌, ◌↔◌, ◌++◌, ◌∷◌, ℕ, Bool, true, false, List, [], Option, None, Result, Ok, Err, IsErr, IsErrAnd, IsTrue, IfErr, OnOk, OnErr}
use Rattle.std.proofs.Common.{ap, append_assoc, codes, decimal, refl, subst, sym, ◌∙◌}
use Rattle.std.specs.Io.KnownBytes.{Appends}
use Rattle.report_core.specs.Written.{AppendsPrefix}
use Rattle.run_core.specs.Lines.{line_of}
use Rattle.std.specs.Borrow.{Bor}
use Rattle.run_core.specs.declared.fault.RunFault.{RunFault}
use Rattle.run_core.specs.declared.fault.RunFault.TheVariants as run
use Rattle.run_core.specs.EditedLayers.{SkippedLists}
use Rattle.words_core.specs.declared.words.Command.{Command}
use Rattle.words_core.specs.declared.words.LayerPaths.{LayerPaths}
use Rattle.command_core.specs.Opening.{Files, bytes_at, IsFirstMissing, no_left, no_right, no_edits}
use Rattle.command_core.specs.declared.notes.Notes.{Notes}
use Rattle.command_core.specs.Commands.{HasImproper}
use Rattle.command_core.specs.declared.notes.SkippedCounts.{SkippedCounts}
use Rattle.command_core.specs.Endings.{AreNotes, IsLineOn}
use Rattle.command_core.proofs.WordLemmas.{two_pieces}
use Rattle.run_core.specs.Marks.{no_rows as no_rows_marked}
use Rattle.words_core.specs.declared.words.LayerRequest.{LayerRequest}
use Rattle.command_core.specs.ImproperRows.{CommandRows, LayerRows, RequestRows, RowLists, rows_in}
use Rattle.command_core.specs.Skipping.{CommandSkips, SkipEnds, StoresFirst, counts_for, skip_of, skipped_line}
use Rattle.command_core.specs.Storing.{Stored}

pub no_rows : SkippedLists
no_rows = record { left = []; right = [] }

pub on_ok : {T : Type 0} (result : Result T RunFault) (P : Type 0) → P → OnOk result P
on_ok (Ok x) P h = h
on_ok (Err e) P h = tt

pub not_ok : {T : Type 0} (result : Result T RunFault) (e : RunFault) (P : Type 0) → IsErrAnd result (λ x. x ≡ e) → OnOk result P
not_ok (Ok x) e P h = absurd h
not_ok (Err x) e P h = tt

-- a file that can't be opened is no fault of what is written
pub missing_writes : (known : Option Files) (paths : LayerPaths) (f : RunFault) → IsFirstMissing known paths f → f ≢ run.Write
missing_writes known paths f (no_left missing) is = cc
missing_writes known paths f (no_right l is_l missing) is = cc
missing_writes known paths f (no_edits l r is_l is_r missing) is = cc

-- nothing is stored if a command ends before
pub skips_nothing : {T : Type 0} (known : Option Files) (command : Command) (stored : Stored) (rows : SkippedLists) (result : Result T RunFault) (e : RunFault)
    → IsErrAnd result (λ x. x ≡ e) → e ≢ run.Write → SkipEnds known command stored stored rows result
skips_nothing known command stored rows (Ok x) e h other = absurd h
skips_nothing known command stored rows (Err x) e h other = record {
  ok = tt;
  partly = λ w. absurd (other (let same : x ≡ run.Write = cc in cc));
  stored = record { ok = tt; partly = λ w. absurd (other (let same : x ≡ run.Write = cc in cc)); untouched = λ w. refl };
}

-- these rows were skipped, and their list stored or not
pub skips_rows : {T : Type 0} (known : Option Files) (command : Command) (old new : Stored) (rows : SkippedLists) (result : Result T RunFault)
    → CommandSkips known command rows → StoresFirst (skip_of command) old new rows result → SkipEnds known command old new rows result
skips_rows known command old new rows result are stored = record {
  ok = on_ok result (CommandSkips known command rows) are;
  partly = λ w. are;
  stored = stored;
}

-- there is this to say of a command, if it succeeds
pub noted : {T : Type 0} (result : Result T RunFault) (known : Option Files) (command : Command) (rows : SkippedLists) (notes : Notes)
    → OnOk result (HasImproper command notes.improper) → OnOk result (notes.skipped ≡ counts_for (skip_of command) rows)
    → OnOk result (CommandRows known command (rows_in notes.rows)) → OnOk result (AreNotes known command rows notes)
noted (Ok x) known command rows notes improper skipped rings = record { improper = improper; skipped = skipped; rings = rings }
noted (Err e) known command rows notes improper skipped rings = tt

-- the rows with improper rings, of two layers and of a lone one
pub with_none : {T : Type 0} (result : Result T RunFault) (P Q : Type 0) → OnOk result P → Q → OnOk result (P × Q)
with_none (Ok x) P Q has none = (has, none)
with_none (Err e) P Q has none = tt

pub of_request : {T : Type 0} (result : Result T RunFault) (known : Option Files) (layer : LayerRequest) (rows : RowLists) → rows.layers ≡ no_rows_marked
    → OnOk result (LayerRows layer.geometries layer.layout layer.scale (bytes_at known layer.path.now) rows.layer) → OnOk result (RequestRows known layer rows)
of_request (Ok x) known layer rows none has = record { layers = none; layer = has }
of_request (Err e) known layer rows none has = tt

untouched_as : {T : Type 0} (result : Result T RunFault) (stored : Stored) → IfErr result (λ f. f ≢ run.Write → stored ≡ stored)
untouched_as (Ok x) stored = tt
untouched_as (Err e) stored = λ w. refl

-- a command that has no list of skipped rows stores nothing
pub skips_none : {T : Type 0} (known : Option Files) (command : Command) (stored : Stored) (rows : SkippedLists) (result : Result T RunFault)
    → CommandSkips known command rows → skip_of command ≡ None → SkipEnds known command stored stored rows result
skips_none {T} known command stored rows result are none =
    let nothing : StoresFirst None stored stored rows result = record {
      ok = on_ok result (stored ≡ stored) refl;
      partly = λ w. refl;
      untouched = untouched_as result stored;
    } in
    skips_rows known command stored stored rows result are (subst (λ (s : Option (Bor (List ℕ))). StoresFirst s stored stored rows result) (sym none) nothing)

-- the line of the rows that were skipped, in its pieces
pub counts_line : (counts : SkippedCounts) (l0 l1 l2 l3 l4 b e : List ℕ) → l0 ≡ codes "rjoin: " → l1 ≡ l0 ++ codes "rows skipped: left " → l2 ≡ l1 ++ b
    → b ≡ decimal counts.left → l3 ≡ l2 ++ codes ", right " → l4 ≡ l3 ++ e → e ≡ decimal counts.right → l4 ++ 10 ∷ [] ≡ skipped_line counts
counts_line counts l0 l1 l2 l3 l4 b e named first second left third fourth right =
    let x = codes "rows skipped: left " in
    let y = codes ", right " in
    let rest : l4 ≡ l1 ++ (b ++ (y ++ e)) =
    fourth ∙ ap (λ l. l ++ e) third ∙ append_assoc l2 y e ∙ ap (λ l. l ++ (y ++ e)) second ∙ append_assoc l1 b (y ++ e) in
    two_pieces l0 l1 l4 x (b ++ (y ++ e)) named first rest ∙ ap (λ s. line_of (x ++ (s ++ (y ++ e)))) left
    ∙ ap (λ s. line_of (x ++ (decimal counts.left ++ (y ++ s)))) right

-- a text was written as this line, or a part of it
pub on_line : {S T E : Type 0} (written : S → Option (List ℕ)) (has_failed : S → Bool) (old new : S) (result : Result T E) (said line : List ℕ) → said ≡ line
    → OnOk result (Appends (written old) (written new) said) → OnErr result (AppendsPrefix (written old) (written new) said)
    → (IsErr result ↔ IsTrue (has_failed new)) → IsLineOn written has_failed old new line
on_line written has_failed old new (Ok x) said line same ok err fails = record {
  whole = λ fine. subst (λ (l : List ℕ). Appends (written old) (written new) l) same ok;
  front = λ failed. let is : false ≡ true = fails.1 failed in absurd cc;
}
on_line written has_failed old new (Err e) said line same ok err fails = record {
  whole = λ fine. let failed : has_failed new ≡ true = fails.0 refl in absurd cc;
  front = λ failed. subst (λ (l : List ℕ). AppendsPrefix (written old) (written new) l) same err;
}
