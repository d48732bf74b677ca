use Rattle.nearest_core.proofs.QueueLemmas.{first_not_below}
use Rattle.nearest_core.proofs.next.is_first_below.Goals as goal

pub returns-in-Some-clause-no : goal.returns-in-Some-clause-no
returns-in-Some-clause-no g c =
    first_not_below g.S.Square.fraction g.met.S.Square.has_denominator c.in-Some.first.now _ c.args.square _ c.requires c.in-Some.ensures.greatest c.is_below.ensures
