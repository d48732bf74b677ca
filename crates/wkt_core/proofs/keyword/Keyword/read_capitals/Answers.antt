use Rattle.wkt_core.proofs.WordLemmas.{capitals}
use Rattle.wkt_core.proofs.keyword.Keyword.read_capitals.Goals as goal

pub returns-in-Some : goal.returns-in-Some
returns-in-Some c = search capitals

pub returns-in-Some-polygon : goal.returns-in-Some-polygon
returns-in-Some-polygon c = search capitals

pub returns-in-Some-line_string : goal.returns-in-Some-line_string
returns-in-Some-line_string c = search capitals
