use Rattle.std.proofs.Common.{rules}
use Rattle.wkt_core.proofs.RawLemmas.{some_forms, none_forms}
use Rattle.wkt_core.proofs.raw.RawText.shape.Goals as goal

pub returns-clause-some : goal.returns-clause-some
returns-clause-some c =
    let (alone, same) = c.in_ok-walk.ensures.some in
    some_forms c.args.self.now.keyword c.args.self.now.lists _ _ alone same (search rules)

pub returns-clause-none : goal.returns-clause-none
returns-clause-none c =
    let (alone, same) = c.in_ok-walk.ensures.some in
    none_forms c.args.self.now.keyword c.args.self.now.lists _ _ alone same (search rules)
