use Rattle.std.proofs.Common.{arith}
use Rattle.number_core.specs.Scales.{digits_of}
use Rattle.number_core.proofs.FractionLemmas.{power_pos}
use Rattle.number_core.proofs.printer.push_number.Goals as goal

pub nonzero_div-magnitude : goal.nonzero_div-magnitude
nonzero_div-magnitude c = omega (arith, c.units_in_one-one.ensures, power_pos (digits_of c.args.scale))

pub nonzero_rem-magnitude : goal.nonzero_rem-magnitude
nonzero_rem-magnitude c = omega (arith, c.units_in_one-one.ensures, power_pos (digits_of c.args.scale))

pub push_fraction-requires : goal.push_fraction-requires
push_fraction-requires c = omega (arith, c.units_in_one-one.ensures, power_pos (digits_of c.args.scale))
