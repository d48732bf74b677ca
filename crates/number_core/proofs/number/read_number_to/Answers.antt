use Rattle.std.proofs.Common.{rules}
use Rattle.number_core.proofs.RoundedLemmas.{plain_rounded}
use Rattle.number_core.proofs.number.read_number_to.Goals as goal

pub returns-in-Some-plain : goal.returns-in-Some-plain
returns-in-Some-plain c =
    plain_rounded c.args.most c.args.scale c.args.text.now _ _ c.rounded.result (search rules) c.in-Some-plain.ensures.some (search rules)
    c.rounded.ensures.value c.rounded.ensures.whole
