-- The rows of a command's layers whose geometries have improper rings, and what is said of them.
use Rattle.std.specs.Prelude.{◌≡◌, ◌==◌, ℕ, List, [], ◌∷◌, ◌++◌, Option, codes, decimal}
use Rattle.std.specs.Prelude.{if◌then◌else◌, length, take}
use Rattle.std.specs.List.{flat_map}
use Rattle.number_core.specs.declared.scale.Scale.{Scale}
use Rattle.format_core.specs.declared.layout.Layout.{Layout}
use Rattle.format_core.specs.Formats.{ReadsAny}
use Rattle.format_core.specs.Layouts.{laid_out}
use Rattle.run_core.specs.ImproperRings.{AreRingsImproper}
use Rattle.run_core.specs.Lines.{line_of}
use Rattle.run_core.specs.Marks.{AreRowsMarked, MarkedLists, MarksLayer, marked_lists, no_rows}
use Rattle.words_core.specs.declared.condition.Geometries.{Geometries}
use Rattle.words_core.specs.declared.condition.Geometries.TheVariants as kinds
use Rattle.words_core.specs.declared.words.Command.{Command}
use Rattle.words_core.specs.declared.words.Command.TheVariants.{Join, Near, Nearest}
use Rattle.words_core.specs.declared.words.Command.TheVariants.{Window, Stats, Bounds}
use Rattle.words_core.specs.declared.words.LayerRequest.{LayerRequest}
use Rattle.command_core.specs.declared.improper_rows.ImproperRows.{ImproperRows}
use Rattle.command_core.specs.Asked.{Asked, files_read, known_bytes}
use Rattle.command_core.specs.Opening.{Files, JoinBytes, bytes_at}
use Rattle.command_core.specs.Requests.{join_asks, near_asks, nearest_asks}

-- the numbers of such rows of the left and the right layer, and of a lone layer
pub record RowLists : Type 0 where
  pub layers : MarkedLists
  pub layer : List ℕ

abbrev pub rows_in : ImproperRows → RowLists
rows_in rows = record { layers = marked_lists rows.layers; layer = rows.layer.items }

-- those of the layers that a command asks for something, given the bytes of its files; none, if no
-- geometry has improper rings
pub record AskedRows (asked : Asked) (bytes : JoinBytes) (rows : MarkedLists) : Type 0 where
  pub improper : AreRowsMarked asked.is_improper (files_read asked bytes) rows
  pub none : ((g : asked.Geometry) → ¬ (asked.is_improper g)) → rows ≡ no_rows

-- the same of a command over two layers, as far as the content of its files is known
abbrev pub KnownRows : Option Files → Asked → RowLists → Type 0
KnownRows known asked rows =
    AskedRows asked (known_bytes known asked.paths) rows.layers × (rows.layer ≡ [])

-- those of a layer with geometries of this kind
abbrev pub LayerRows : Geometries → Layout → Scale → Option (List ℕ) → List ℕ → Type 0
LayerRows kinds.Box layout scale bytes rows = rows ≡ []
LayerRows (kinds.Any rings) layout scale bytes rows =
    MarksLayer (laid_out layout (ReadsAny scale rings)) (AreRingsImproper rings) bytes rows

-- those of a command over one layer
pub record RequestRows (known : Option Files) (request : LayerRequest) (rows : RowLists)
    : Type 0 where
  pub layers : rows.layers ≡ no_rows
  pub layer : LayerRows request.geometries request.layout request.scale
      (bytes_at known request.path.now) rows.layer

-- those of a command, as far as the content of its files is known
abbrev pub CommandRows : Option Files → Command → RowLists → Type 0
CommandRows known (Join join) rows = KnownRows known (join_asks join) rows
CommandRows known (Near near) rows = KnownRows known (near_asks near) rows
CommandRows known (Nearest nearest) rows = KnownRows known (nearest_asks nearest) rows
CommandRows known (Window layer wkt) rows = RequestRows known layer rows
CommandRows known (Stats layer) rows = RequestRows known layer rows
CommandRows known (Bounds layer) rows = RequestRows known layer rows
CommandRows known _ rows = (rows.layers ≡ no_rows) × (rows.layer ≡ [])

-- ---- the line of such rows

-- how many there are
abbrev pub how_many : ℕ → List ℕ
how_many count = if count == 1 then codes "1 feature with improper rings: row "
    else (decimal count ++ codes " features with improper rings: rows ")

-- the numbers of the first five
abbrev pub first_rows : List ℕ → List ℕ
first_rows [] = []
first_rows (row ∷ rows) = decimal row ++ flat_map (λ r. codes ", " ++ decimal r) (take 4 rows)

-- the line of the rows of this input
abbrev pub rows_line : List ℕ → List ℕ → List ℕ
rows_line input rows = line_of (input ++ (codes ": even-odd rule for "
    ++ (how_many (length rows) ++ first_rows rows)))
