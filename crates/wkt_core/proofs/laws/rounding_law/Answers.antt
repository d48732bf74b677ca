use Rattle.wkt_core.proofs.PlainLemmas.{spelled_alike}
use Rattle.wkt_core.proofs.laws.rounding_law.Goals as goal

pub returns : goal.returns
returns c = record { spelled_alike = spelled_alike }
