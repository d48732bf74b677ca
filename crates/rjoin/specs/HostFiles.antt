-- The remaining bytes of a file of the host.
use Rattle.std.specs.Prelude.{ℕ, List, Option}
use Rattle.rjoin.specs.declared.host.HostFile.{HostFile}
use Rattle.rjoin.specs.declared.host.HostFile.TheVariants.{Named, StandardInput}

-- the remaining bytes of a named file or of standard input, if they are known
abbrev pub bytes_left : {F S : Type 0} → (F → Option (List ℕ)) → (S → Option (List ℕ))
    → HostFile F S → Option (List ℕ)
bytes_left of_file of_input (Named file) = of_file file
bytes_left of_file of_input (StandardInput reader) = of_input reader
