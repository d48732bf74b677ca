-- What may help after a fault, on a line of its own.
use Rattle.std.specs.Prelude.{ℕ, List, [], ◌∷◌, ◌++◌, codes, if◌then◌else◌}
use Rattle.row_core.specs.declared.beginning.Beginning.{Beginning}
use Rattle.row_core.specs.declared.beginning.Beginning.TheVariants as begins
use Rattle.row_core.specs.declared.read_fault.ReadFault.{ReadFault}
use Rattle.row_core.specs.declared.read_fault.ReadFault.TheVariants as read
use Rattle.row_core.specs.Beginnings.{line_text}
use Rattle.run_core.specs.declared.fault.RunFault.{RunFault}
use Rattle.run_core.specs.declared.fault.RunFault.TheVariants as run

-- what a file begins with whose header is wrong, or which programs read it
abbrev pub beginning_hint : Beginning → List ℕ
beginning_hint (begins.Line line) =
    codes "the first line begins with '" ++ (line_text line ++ codes "'")
beginning_hint begins.GeoPackage =
    codes "python3 -m rjoin and recipes/from-ogr read this GeoPackage"
beginning_hint begins.Shapefile = codes "python3 -m rjoin and recipes/from-ogr read this shapefile"
beginning_hint begins.Gzip = codes "gzip -d unpacks this file"
beginning_hint begins.Json = codes "python3 -m rjoin and recipes/from-ogr read this GeoJSON"

-- of a row that spells no box, that it spells a geometry of another kind
abbrev pub read_hint : ReadFault → List ℕ
read_hint (read.Header beginning) = 10 ∷ beginning_hint beginning
read_hint (read.Wkt row fault spells) =
    if spells then 10 ∷ codes "--geometry any reads this row" else []
read_hint _ = []

abbrev pub run_hint : RunFault → List ℕ
run_hint (run.Read input fault) = read_hint fault
run_hint _ = []
