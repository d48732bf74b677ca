-- The texts of options that are out of range.
use Rattle.std.specs.Prelude.{ℕ, List, codes}
use Rattle.pair_core.specs.declared.options.OptionFault.{OptionFault}
use Rattle.pair_core.specs.declared.options.OptionFault.TheVariants.{Workers, Batch, Cut}

abbrev pub option_text : OptionFault → List ℕ
option_text Workers = codes "--workers must be 1 to 16"
option_text Batch = codes "--batch must be 1 to 4096"
option_text Cut = codes "--cut must be 0 to 8"
