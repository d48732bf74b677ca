-- How the file of a layer is laid out, its limits, and how its geometries read.
use Rattle.std.specs.Prelude.{ℕ, List, Result}
use Rattle.number_core.specs.declared.limits.Limits.{Limits}
use Rattle.format_core.specs.declared.layout.Columns.TheVariants.{Exact}
use Rattle.format_core.specs.declared.layout.Delimiter.{Delimiter}
use Rattle.format_core.specs.declared.layout.Delimiter.TheVariants.{Comma, Semicolon, Tab}
use Rattle.format_core.specs.declared.layout.Layout.{Layout}
use Rattle.format_core.specs.declared.text_fault.TextFault.{TextFault}

abbrev pub delimiter_byte : Delimiter → ℕ
delimiter_byte Comma = 44
delimiter_byte Semicolon = 59
delimiter_byte Tab = 9

-- the columns `id` and `wkt` alone, with commas between them
abbrev pub plain_layout : Layout
plain_layout = record { delimiter = Comma; columns = Exact }

-- which geometry or fault a text reads as
abbrev pub TextReading : Type 0 → Type 1
TextReading G = List ℕ → Result G TextFault → Type 0

-- how the files of layers read: their layout, their limits, and their geometries' texts
pub record Reading (G : Type 0) : Type 1 where
  pub layout : Layout
  pub limits : Limits
  pub text : TextReading G

-- files with the columns `id` and `wkt` and these limits, whose geometries read in this way
abbrev pub plain : {G : Type 0} → Limits → TextReading G → Reading G
plain limits text = record { layout = plain_layout; limits = limits; text = text }

-- the same geometries in files with this layout
abbrev pub laid_out : {G : Type 0} → Layout → Reading G → Reading G
laid_out layout reads = record reads { layout = layout }
