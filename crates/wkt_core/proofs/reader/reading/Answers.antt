use Rattle.std.proofs.Common.{rules}
use Rattle.wkt_core.proofs.AnswerLemmas.{answered}
use Rattle.wkt_core.proofs.reader.reading.Goals as goal

pub returns : goal.returns
returns c = answered _ _ c.args.read _ c.requires.some c.requires.none (search rules)
