-- The results of opening a file, and the known content of the files of a join.
use Rattle.std.specs.Prelude.{◌≡◌, ⊤, ℕ, List, Option, Some, None, Result, Ok, Err, IfSome}
use Rattle.std.specs.Borrow.{Bor}
use Rattle.format_core.specs.declared.layout.Layout.{Layout}
use Rattle.run_core.specs.declared.fault.Input.{Input}
use Rattle.run_core.specs.declared.fault.Input.TheVariants.{Left, Right, Edits, Layer}
use Rattle.run_core.specs.declared.fault.RunFault.{RunFault}
use Rattle.run_core.specs.declared.fault.RunFault.TheVariants.{NoFile, NoKeys}
use Rattle.run_core.specs.declared.sources.JoinSources.{JoinSources}
use Rattle.run_core.specs.EditedLayers.{bytes_of}
use Rattle.words_core.specs.declared.words.LayerPaths.{LayerPaths}

-- the content at each path: bytes, or `None` if nothing can be opened there
abbrev pub Files : Type 0
Files = List ℕ → Option (List ℕ)

-- an input that has to be opened, and the consequence if it is
abbrev pub AfterOpening : Input → Option (List ℕ) → Result (List ℕ) RunFault
    → (List ℕ → Type 0) → Type 0
AfterOpening input None answer Then = answer ≡ Err (NoFile input)
AfterOpening input (Some bytes) answer Then = Then bytes

-- the bytes at a path, if the content of the files is known
abbrev pub bytes_at : Option Files → List ℕ → Option (List ℕ)
bytes_at None path = None
bytes_at (Some at) path = at path

-- the file with the bytes at its path, or an error if there are none
abbrev pub Opens : {F E : Type 0} → (F → Option (List ℕ)) → Option (List ℕ) → Result F E → Type 0
Opens remaining (Some bytes) (Ok file) = remaining file ≡ Some bytes
Opens remaining (Some bytes) (Err e) = ⊥
Opens remaining None (Ok file) = ⊥
Opens remaining None (Err e) = ⊤

-- the bytes at a path, as reported by the file opened there
abbrev pub IsAt : Option Files → List ℕ → Option (List ℕ) → Type 0
IsAt known path told =
    IfSome known (λ at. (bytes : List ℕ) × (at path ≡ Some bytes) × (told ≡ Some bytes))

abbrev pub IsMissing : Option Files → List ℕ → Type 0
IsMissing known path = IfSome known (λ at. at path ≡ None)

-- the same for the file of edits, if one is given
abbrev pub AreEditsAt : Option Files → Option (Bor (List ℕ)) → Option (Option (List ℕ)) → Type 0
AreEditsAt known None told = told ≡ None
AreEditsAt known (Some path) told =
    (bytes : Option (List ℕ)) × (told ≡ Some bytes) × IsAt known path.now bytes

abbrev pub AreEditsMissing : Option Files → Option (Bor (List ℕ)) → Type 0
AreEditsMissing known None = ⊥
AreEditsMissing known (Some path) = IsMissing known path.now

-- why the layer at a path can't be read: there is no file, or there are no keys for its ids
pub data IsLayerUnready (known : Option Files) (path : List ℕ) : RunFault → Type 0 where
  no_file : IsMissing known path → IsLayerUnready known path (NoFile Layer)
  no_keys : (told : Option (List ℕ)) → IsAt known path told → IsLayerUnready known path NoKeys

-- the layouts of the left and the right file of a join, and the known bytes of its files; there may
-- be no file of edits
pub record JoinBytes : Type 0 where
  pub layouts : Layout × Layout
  pub left : Option (List ℕ)
  pub right : Option (List ℕ)
  pub edits : Option (Option (List ℕ))

-- those of its opened files
abbrev pub bytes_in : {F : Type 0} → (F → Option (List ℕ)) → JoinSources F F F → JoinBytes
bytes_in remaining sources = record {
  layouts = (sources.left_layout, sources.right_layout);
  left = remaining sources.left;
  right = remaining sources.right;
  edits = bytes_of remaining sources.edits;
}

abbrev pub layouts_at : LayerPaths → Layout × Layout
layouts_at paths = (paths.left_layout, paths.right_layout)

-- the bytes at the paths of layers, as reported by its opened files
pub record AreOpened (known : Option Files) (paths : LayerPaths) (told : JoinBytes) : Type 0 where
  pub laid : told.layouts ≡ layouts_at paths
  pub at_left : IsAt known paths.left.now told.left
  pub at_right : IsAt known paths.right.now told.right
  pub at_edits : AreEditsAt known paths.edits told.edits

-- the first file of a join that can't be opened, in the order left, right, edits
pub data IsFirstMissing (known : Option Files) (paths : LayerPaths) : RunFault → Type 0 where
  no_left : IsMissing known paths.left.now → IsFirstMissing known paths (NoFile Left)
  no_right : (left : Option (List ℕ)) → IsAt known paths.left.now left
      → IsMissing known paths.right.now → IsFirstMissing known paths (NoFile Right)
  no_edits : (left right : Option (List ℕ)) → IsAt known paths.left.now left
      → IsAt known paths.right.now right → AreEditsMissing known paths.edits
      → IsFirstMissing known paths (NoFile Edits)
