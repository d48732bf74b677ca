use Rattle.any_relation_core.proofs.envelope_rule.EnvelopeRule.allows.Goals as goal

pub returns-in-FirstInSecond : goal.returns-in-FirstInSecond
returns-in-FirstInSecond c = rw c.in-FirstInSecond.is c.is_in.ensures

pub returns-in-SecondInFirst : goal.returns-in-SecondInFirst
returns-in-SecondInFirst c = rw c.in-SecondInFirst.is c.is_in-in-SecondInFirst.ensures
