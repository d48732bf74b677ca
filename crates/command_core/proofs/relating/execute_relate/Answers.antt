use Rattle.std.proofs.Common.{rules}
use Rattle.command_core.proofs.CommandLemmas.{boxes_related, any_related}
use Rattle.command_core.proofs.relating.execute_relate.Goals as goal

pub returns-in-Box-clause-ends : goal.returns-in-Box-clause-ends
returns-in-Box-clause-ends g c = λ known.
    boxes_related known _ _ _ c.args.request.now _ _ _ _ _ c.in-Box.is c.as_bytes-a.ensures.value c.as_bytes-b.ensures.value (search rules)
    (search rules) (search rules)

pub returns-in-Any-clause-ends : goal.returns-in-Any-clause-ends
returns-in-Any-clause-ends g c = λ known.
    any_related c.in-Any.rings known _ _ _ c.args.request.now _ _ _ c.in-Any.is (search rules) (search rules) (search rules)
