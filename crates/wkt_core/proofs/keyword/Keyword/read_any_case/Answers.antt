use Rattle.wkt_core.proofs.WordLemmas.{has_not, no_keyword}
use Rattle.wkt_core.proofs.keyword.Keyword.read_any_case.Goals as goal

pub returns-clause-none : goal.returns-clause-none
returns-clause-none c = no_keyword c.args.text.now (search has_not) (search has_not) (search has_not)
