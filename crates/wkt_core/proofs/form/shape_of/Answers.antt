use Rattle.std.proofs.Common.{rules}
use Rattle.wkt_core.proofs.FormLemmas.{none_point, none_segment}
use Rattle.wkt_core.proofs.form.shape_of.Goals as goal

pub returns-in-empty-clause-none : goal.returns-in-empty-clause-none
returns-in-empty-clause-none c =
    none_point _ c.args.keyword _ _ _ c.in_ok-last.last c.in-Point.is (search rules) c.in_ok-last.ensures c.in-empty.len_below (search)

pub returns-in-len1-clause-none : goal.returns-in-len1-clause-none
returns-in-len1-clause-none c =
    none_segment _ c.args.keyword _ _ _ c.in_ok-last.last c.in-LineString.is (search rules) c.in_ok-last.ensures c.in-len1.len_at_least (search)
