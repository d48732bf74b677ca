-- The numbers that 384 bits represent.
use Rattle.std.specs.Prelude.{ℕ, ◌+◌, ◌*◌, ◌^◌}
use Rattle.wide_core.specs.declared.wider.Wider.{Wider}
use Rattle.wide_core.specs.Wides.{value_of}

abbrev pub total_of : Wider → ℕ
total_of n = value_of n.high * 2 ^ 128 + n.low
