use Rattle.std.proofs.Common.{Some, None}
use Rattle.words_core.proofs.ReadingLemmas.{met_is}
use Rattle.words_core.proofs.reading.read_command.Goals as goal

pub returns-in-Some-clause-ok : goal.returns-in-Some-clause-ok
returns-in-Some-clause-ok c =
    rw (met_is c.args.matches.now (Some c.in-Some.met) c.in-Some.ensures.name c.in-Some.ensures.rows) (search)

pub returns-in-Some-clause-err : goal.returns-in-Some-clause-err
returns-in-Some-clause-err c =
    rw (met_is c.args.matches.now (Some c.in-Some.met) c.in-Some.ensures.name c.in-Some.ensures.rows) (search)

pub returns-in-None-clause-err : goal.returns-in-None-clause-err
returns-in-None-clause-err c =
    rw (met_is c.args.matches.now None c.in-None.ensures.name c.in-None.ensures.rows) (search)
