-- What a command asks of the files of two layers and of edits, and its results and its faults.
use Rattle.std.specs.Prelude.{ℕ, List, Bool, Option, Some, None, IsSome, Result}
use Rattle.std.specs.Borrow.{Bor}
use Rattle.format_core.specs.Layouts.{Reading}
use Rattle.file_core.specs.declared.skipped.Unreadable.{Unreadable}
use Rattle.file_core.specs.declared.skipped.Unreadable.TheVariants.{Refuse, Skip}
use Rattle.run_core.specs.declared.fault.Input.TheVariants.{Left, Right, Edits}
use Rattle.run_core.specs.declared.fault.RunFault.{RunFault}
use Rattle.run_core.specs.declared.fault.RunFault.TheVariants.{NotStored}
use Rattle.run_core.specs.declared.loaded.JoinText.{JoinText}
use Rattle.run_core.specs.declared.sources.JoinSources.{JoinSources}
use Rattle.run_core.specs.EditedLayers.{JoinFiles, files_by}
use Rattle.run_core.specs.Marks.{MarkedLists}
use Rattle.run_core.specs.SourceStates.{HasFailed}
use Rattle.run_core.specs.TextRuns.{IsTextRunFault, MakesText, Making, TextGives}
use Rattle.words_core.specs.declared.words.LayerPaths.{LayerPaths}
use Rattle.command_core.specs.Opening.{AfterOpening, Files, JoinBytes, bytes_at, layouts_at}

-- what a command asks of the files of two layers and of edits: where they are, how geometries read,
-- what is made of the edited layers, and which geometries have improper rings
pub record Asked : Type 1 where
  pub paths : LayerPaths
  pub Geometry : Type 0
  pub reads : Reading Geometry
  pub making : Making Geometry
  pub is_improper : Geometry → Type 0

-- rows whose geometry can't be read are skipped where there is a path for the list of them
abbrev pub unreadable_for : Option (Bor (List ℕ)) → Unreadable
unreadable_for None = Refuse
unreadable_for (Some path) = Skip

-- the files with these bytes, as they are read, the layers with their layouts
abbrev pub files_read : (asked : Asked) → JoinBytes → JoinFiles asked.Geometry
files_read asked bytes = record {
  reads = asked.reads;
  left_layout = bytes.layouts.0;
  right_layout = bytes.layouts.1;
  unreadable = unreadable_for asked.paths.skip;
  left = bytes.left;
  right = bytes.right;
  edits = bytes.edits;
}

-- how making the text that is asked for ends, of opened files whose unreadable rows are so treated
abbrev pub MakesAsked : {F : Type 0} → Asked → Unreadable → (F → Option (List ℕ)) → (F → Bool)
    → JoinSources F F F → JoinSources F F F → MarkedLists → Result JoinText RunFault → Type 0
MakesAsked asked unreadable remaining has_failed old new =
    MakesText asked.making asked.is_improper
    (files_by unreadable asked.reads remaining remaining remaining old)
    (HasFailed has_failed has_failed has_failed new)

-- the text that is asked for, given the bytes of the files, or the first fault
abbrev pub AskedGives : Asked → JoinBytes → Result (List ℕ) RunFault → Type 0
AskedGives asked bytes = TextGives asked.making (files_read asked bytes)

-- a possible fault of making it, except those of what is written
abbrev pub IsAskedTextFault : Asked → JoinBytes → RunFault → Type 0
IsAskedTextFault asked bytes = IsTextRunFault asked.making (files_read asked bytes)

-- the same, or that the list of the rows that were skipped can't be written
abbrev pub OrNotStored : Option (Bor (List ℕ)) → (RunFault → Type 0) → RunFault → Type 0
OrNotStored skip IsRunFault NotStored = IsSome skip
OrNotStored skip IsRunFault fault = IsRunFault fault

-- a possible fault of what is asked, except that of its sink
abbrev pub IsAskedFault : Asked → JoinBytes → RunFault → Type 0
IsAskedFault asked bytes = OrNotStored asked.paths.skip (IsAskedTextFault asked bytes)

-- the file of edits, if one is given
abbrev pub AfterEdits : Files → Option (Bor (List ℕ)) → Result (List ℕ) RunFault
    → (Option (Option (List ℕ)) → Type 0) → Type 0
AfterEdits at None answer Then = Then None
AfterEdits at (Some path) answer Then =
    AfterOpening Edits (at path.now) answer (λ bytes. Then (Some (Some bytes)))

-- the result of the files at its paths, which are opened in the order left, right, edits
abbrev pub PathsGive : Files → Asked → Result (List ℕ) RunFault → Type 0
PathsGive at asked answer =
    AfterOpening Left (at asked.paths.left.now) answer (λ l.
    AfterOpening Right (at asked.paths.right.now) answer (λ r.
    AfterEdits at asked.paths.edits answer (λ e.
    AskedGives asked
    (record { layouts = layouts_at asked.paths; left = Some l; right = Some r; edits = e })
    answer)))

abbrev pub edits_at : Option Files → Option (Bor (List ℕ)) → Option (Option (List ℕ))
edits_at known None = None
edits_at known (Some path) = Some (bytes_at known path.now)

-- the bytes of the files at these paths, as far as they are known
abbrev pub known_bytes : Option Files → LayerPaths → JoinBytes
known_bytes known paths = record {
  layouts = layouts_at paths;
  left = bytes_at known paths.left.now;
  right = bytes_at known paths.right.now;
  edits = edits_at known paths.edits;
}
