-- The results of reading all bytes of a source.
use Rattle.std.specs.Prelude.{◌≡◌, ◌⊎◌}
use Rattle.row_core.specs.declared.read_fault.ReadFault.{ReadFault}
use Rattle.row_core.specs.declared.read_fault.ReadFault.TheVariants.{Io, TooLong, Memory}

-- a fault of reading bytes, whatever they are
abbrev pub IsReadingFault : ReadFault → Type 0
IsReadingFault fault = (fault ≡ Io) ⊎ (fault ≡ TooLong) ⊎ (fault ≡ Memory)
