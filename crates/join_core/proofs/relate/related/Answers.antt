use Rattle.std.proofs.Common.{refl}
use Rattle.join_core.proofs.RelatingLemmas.{first_at_fault, second_at_fault, none_at_fault}
use Rattle.join_core.proofs.relate.related.Goals as goal

pub returns-in-Err-clause-wkt : goal.returns-in-Err-clause-wkt
returns-in-Err-clause-wkt c = first_at_fault c.args.scale _ _ _ _ refl c.in-Err.ensures.reads c.in-Err.ensures.only

pub returns-in-Err-second_read-clause-wkt : goal.returns-in-Err-second_read-clause-wkt
returns-in-Err-second_read-clause-wkt c =
    second_at_fault c.args.scale _ _ _ _ _ refl c.in-Ok.ensures.reads c.in-Ok.ensures.only c.in-Err-second_read.ensures.reads c.in-Err-second_read.ensures.only

pub returns-clause-wkt : goal.returns-clause-wkt
returns-clause-wkt c = none_at_fault c.args.scale _ _ _ _ _ _ refl c.in-Ok.ensures.only c.in-Ok-second_read.ensures.only
