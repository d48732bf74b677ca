use Rattle.std.proofs.Common.{rules}
use Rattle.output_tests.proofs.ParityLemmas.{word_added}
use Rattle.output_tests.proofs.parity.ParityFieldLastFieldAnyGeometryRefinedU64.push_field.Goals as goal

pub returns : goal.returns
returns c = word_added c.args._left.now.list c.args._right.now.list c.args._found.now.pair _ _ c.extend_from_slice.result c.requires (search rules)
