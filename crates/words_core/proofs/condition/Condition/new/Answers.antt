use Rattle.words_core.proofs.condition.Condition.new.Goals as goal

pub returns-in_ok-relation-in-Box-clause-ok : goal.returns-in_ok-relation-in-Box-clause-ok
returns-in_ok-relation-in-Box-clause-ok c = rw c.in-Box.is c.in_ok-relation-in-Box.ensures.ok

pub returns-in_ok-relation-in-Any-clause-ok : goal.returns-in_ok-relation-in-Any-clause-ok
returns-in_ok-relation-in-Any-clause-ok c = rw c.in-Any.is c.in_ok-relation-in-Any.ensures.ok
