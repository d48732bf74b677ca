-- The text of each fault of a file.
use Rattle.std.specs.Prelude.{ℕ, List, [], ◌++◌, Option, Some, None, codes, decimal}
use Rattle.wkt_core.specs.FaultTexts.{wkt_text}
use Rattle.wkt_any_core.specs.FaultTexts.{geometry_text}
use Rattle.layer_core.specs.FaultTexts.{layer_text}
use Rattle.row_core.specs.declared.read_fault.ReadFault.{ReadFault}
use Rattle.row_core.specs.declared.read_fault.ReadFault.TheVariants.{Io, TooLong, Header, Row}
use Rattle.row_core.specs.declared.read_fault.ReadFault.TheVariants.{Wkt, Geometry, Layer}
use Rattle.row_core.specs.declared.read_fault.ReadFault.TheVariants.{Memory}

-- the number of the row at fault, if there is one
abbrev pub row_of : ReadFault → Option ℕ
row_of (Row n) = Some n
row_of (Wkt n fault any) = Some n
row_of (Geometry n fault) = Some n
row_of (Layer n fault) = Some n
row_of Io = None
row_of TooLong = None
row_of (Header beginning) = None
row_of Memory = None

-- the text of the fault, without its row
abbrev pub cause_text : ReadFault → List ℕ
cause_text Io = codes "read failed"
cause_text TooLong = codes "file is too long"
cause_text (Header beginning) = codes "wrong header"
cause_text (Row n) = codes "wrong fields"
cause_text (Wkt n fault any) = wkt_text fault
cause_text (Geometry n fault) = geometry_text fault
cause_text (Layer n fault) = layer_text fault
cause_text Memory = codes "no memory"

-- the number of a row, before the text of its fault
abbrev pub row_text : ℕ → List ℕ
row_text n = codes "row " ++ (decimal n ++ codes ": ")

abbrev pub row_part : Option ℕ → List ℕ
row_part (Some n) = row_text n
row_part None = []

abbrev pub read_text : ReadFault → List ℕ
read_text fault = row_part (row_of fault) ++ cause_text fault
