use Rattle.deliver_core.proofs.OwnerLaws.{law_begins, law_unowned, law_accepted, law_closed, law_scripts, law_pairs}
use Rattle.deliver_core.proofs.owners.owners_law.Goals as goal

pub returns-clause-begins : goal.returns-clause-begins
returns-clause-begins c = law_begins

pub returns-clause-unowned : goal.returns-clause-unowned
returns-clause-unowned c = law_unowned

pub returns-clause-accepted : goal.returns-clause-accepted
returns-clause-accepted c = law_accepted

pub returns-clause-closed : goal.returns-clause-closed
returns-clause-closed c = law_closed

pub returns-clause-scripts : goal.returns-clause-scripts
returns-clause-scripts c = law_scripts

pub returns-clause-pairs : goal.returns-clause-pairs
returns-clause-pairs c = law_pairs
