use Rattle.std.proofs.Common.{rules}
use Rattle.number_core.proofs.NumberLemmas.{plain_read}
use Rattle.number_core.proofs.number.read_plain.Goals as goal

pub returns-in-48-to-57-clause-some : goal.returns-in-48-to-57-clause-some
returns-in-48-to-57-clause-some c = search (rules, plain_read)
