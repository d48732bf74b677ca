use Rattle.any_join_core.proofs.LimitLemmas.{below_greatest}
use Rattle.any_join_core.proofs.matching.question_of.Goals as goal

pub returns-clause-bound : goal.returns-clause-bound
returns-clause-bound c =
    λ m good_g good_h is. rw (c.greatest.ensures, c.dim-first_dim.ensures, c.dim-second_dim.ensures)
    (below_greatest c.args.a.now c.args.b.now m good_g good_h is)
