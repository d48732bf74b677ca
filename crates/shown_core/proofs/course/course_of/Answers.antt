use Rattle.std.proofs.Common.{refl}
use Rattle.shown_core.proofs.ApartLemmas.{apart_of_near}
use Rattle.shown_core.proofs.course.course_of.Goals as goal

pub returns-clause-apart : goal.returns-clause-apart
returns-clause-apart c = λ other found. apart_of_near c.args.e.now _ _ c.args.near.now other refl c.is_apart-is_apart.ensures found
