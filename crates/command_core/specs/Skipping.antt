-- The list of the rows that a command skips: when it is stored, and what is said of it.
use Rattle.std.specs.Prelude.{◌≡◌, ◌≢◌, ⊤, ℕ, List, ◌++◌, Option, Some, None, Result, codes}
use Rattle.std.specs.Prelude.{decimal}
use Rattle.std.specs.Prelude.{IfErr, IsErrOf, IsSome, MatchOption, OnOk, length}
use Rattle.std.specs.Borrow.{Bor}
use Rattle.run_core.specs.declared.fault.RunFault.{RunFault}
use Rattle.run_core.specs.declared.fault.RunFault.TheVariants.{Memory, NotStored, Write}
use Rattle.run_core.specs.EditedLayers.{AreRowsSkipped, SkippedLists}
use Rattle.run_core.specs.Lines.{line_of}
use Rattle.run_core.specs.SkippedTexts.{skipped_text}
use Rattle.words_core.specs.declared.words.Command.{Command}
use Rattle.words_core.specs.declared.words.Command.TheVariants.{Join, Near, Nearest}
use Rattle.command_core.specs.declared.notes.SkippedCounts.{SkippedCounts}
use Rattle.command_core.specs.Asked.{Asked, files_read, known_bytes}
use Rattle.command_core.specs.Opening.{Files, JoinBytes}
use Rattle.command_core.specs.Requests.{join_asks, near_asks, nearest_asks}
use Rattle.command_core.specs.Storing.{Stored, Stores}

-- the path of the list of skipped rows, if a command asks for it
abbrev pub skip_of : Command → Option (Bor (List ℕ))
skip_of (Join join) = join.paths.skip
skip_of (Near near) = near.paths.skip
skip_of (Nearest nearest) = nearest.paths.skip
skip_of _ = None

-- the rows that a command skips of the files of layers, given their bytes
abbrev pub AskedSkips : Asked → JoinBytes → SkippedLists → Type 0
AskedSkips asked bytes = AreRowsSkipped (files_read asked bytes)

-- the same, as far as their content is known
abbrev pub KnownSkips : Option Files → Asked → SkippedLists → Type 0
KnownSkips known asked = AskedSkips asked (known_bytes known asked.paths)

-- the rows that a command skips, as far as the content of its files is known
abbrev pub CommandSkips : Option Files → Command → SkippedLists → Type 0
CommandSkips known (Join join) = KnownSkips known (join_asks join)
CommandSkips known (Near near) = KnownSkips known (near_asks near)
CommandSkips known (Nearest nearest) = KnownSkips known (nearest_asks nearest)
CommandSkips known _ = λ rows. ⊤

-- the list of these rows is stored at this path, if there is one
abbrev pub StoresList : Option (Bor (List ℕ)) → Stored → Stored → SkippedLists → Type 0
StoresList skip old new rows =
    MatchOption skip (new ≡ old) (λ path. Stores old new path.now (skipped_text rows))

-- why the list is not stored: there is no memory for it, or its file can't be written
abbrev pub IsStoreFault : Option (Bor (List ℕ)) → RunFault → Type 0
IsStoreFault skip Memory = IsSome skip
IsStoreFault skip NotStored = IsSome skip
IsStoreFault skip _ = ⊥

-- when the list of these rows is stored: before the output is written, and not after another fault
pub record StoresFirst {T : Type 0} (skip : Option (Bor (List ℕ)))
    (old new : Stored) (rows : SkippedLists) (result : Result T RunFault)
    : Type 0 where
  pub ok : OnOk result (StoresList skip old new rows)
  pub partly : IsErrOf result Write → StoresList skip old new rows
  pub untouched : IfErr result (λ f. f ≢ Write → new ≡ old)

-- the list of the rows that a command skips is stored, if it asks for the list
pub record SkipEnds {T : Type 0} (known : Option Files) (command : Command)
    (old new : Stored) (rows : SkippedLists) (result : Result T RunFault)
    : Type 0 where
  pub ok : OnOk result (CommandSkips known command rows)
  pub partly : IsErrOf result Write → CommandSkips known command rows
  pub stored : StoresFirst (skip_of command) old new rows result

abbrev pub counts_of : SkippedLists → SkippedCounts
counts_of rows = record { left = length rows.left; right = length rows.right }

-- how many rows were skipped, if the list of them is asked for
abbrev pub counts_for : Option (Bor (List ℕ)) → SkippedLists → Option SkippedCounts
counts_for None rows = None
counts_for (Some path) rows = Some (counts_of rows)

-- the line of these numbers
abbrev pub skipped_line : SkippedCounts → List ℕ
skipped_line counts = line_of (codes "rows skipped: left " ++ (decimal counts.left
    ++ (codes ", right " ++ decimal counts.right)))
