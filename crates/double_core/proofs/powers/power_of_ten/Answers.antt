use Rattle.std.proofs.Common.{arith}
use Rattle.double_core.proofs.TableLemmas.{power_at}
use Rattle.double_core.proofs.powers.power_of_ten.Goals as goal

pub returns-clause-power : goal.returns-clause-power
returns-clause-power c = omega (arith, power_at c.args.exponent c.requires)
