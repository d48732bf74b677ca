-- The limit of a file.
use Rattle.std.specs.Prelude.{ℕ}
use Rattle.number_core.specs.declared.limits.Limits.{Limits}
use Rattle.number_core.specs.declared.limits.Limits.TheVariants.{Any, Boxes}

-- the greatest number of bytes of a file with these limits
abbrev pub most_file_bytes : Limits → ℕ
most_file_bytes Boxes = 134217728
most_file_bytes Any = 4294967295
